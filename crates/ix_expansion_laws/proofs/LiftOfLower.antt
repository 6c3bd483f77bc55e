-- Lowering a derivation and lifting it again gives it back.
use Rattle.std.proofs.Common.{◌≡◌, refl, ap, sym, subst, ◌∙◌, ℕ, List, [], ◌∷◌, length, Option, Some, None, arith, slice_get}
use mathlib.Core.Logic.{inl, inr}
use Rattle.ix_model.specs.declared.grammar.Grammar.{Grammar}
use Rattle.ix_model.specs.declared.grammar.Alt.{Alt}
use Rattle.ix_model.specs.declared.grammar.Term.{Term, One}
use Rattle.ix_model.specs.declared.grammar.Factor.{Factor, Call, Group}
use Rattle.ix_model.specs.declared.rules.Kind.{Kind}
use Rattle.ix_model.specs.declared.rules.Kind.TheVariants as kind
use Rattle.ix_model.specs.declared.rules.Sym.{Sym}
use Rattle.ix_model.specs.declared.rules.Sym.TheVariants as sy
use Rattle.ix_model.specs.declared.rules.Rules.{Rules}
use Rattle.ix_model.specs.Grammars.Names.{HasUniqueNames}
use Rattle.ix_model.specs.Derivations.Trees.{Tree, text, insertion, node, group, present, absent, no_item, list, Trees, no_tree, and, Repeated, one, again, again_after, tree_count}
use Rattle.ix_model.specs.Derivations.Derives.{Derives, DerivesFirst, Repeats, IsDerivation}
use Rattle.ix_model.specs.Expansion.FlatTrees.{FlatTrees, flat_node, flats_and, no_flat}
use Rattle.ix_model.specs.Expansion.Expanded as X
use Rattle.ix_model.specs.Expansion.Expanded.{Next, next_syms, HasFlat, TermBecomes, RepeatBecomes, FactorBecomes, AltsBecome, TermsBecome, Expanded}
use Rattle.ix_model.specs.Expansion.Numbered.{sym_at}
use Rattle.ix_model.specs.Expansion.Lift.{lift, lift_all, lifted, parts}
use Rattle.ix_model.specs.Expansion.Lower.{lower, lower_all, lower_repeated, starred, rule_in}
use Rattle.ix_expansion_laws.proofs.Lifting.{kind_is, rules_at}
use Rattle.ix_expansion_laws.proofs.Lowering.{to_alt, to_term, sym_is, of_one, of_option, of_plus, of_star, of_call, of_group, of_repeat, of_none, of_some, IsStarred}

module _ (g : Grammar) (rules : Rules) (s : List ℕ) where
  abbrev Returns : Tree → Type 0
  Returns d = (a b : Next) (t : Term) (x : Sym) (i j : ℕ) → TermBecomes g rules a t x b → Derives g s d t i j → lift rules (lower rules d x) ≡ d

  abbrev AllReturn : Trees → Type 0
  AllReturn no_tree = Unit {0}
  AllReturn (and ds d) = AllReturn ds × Returns d

  abbrev ReturnsRepeated : Repeated → Type 0
  ReturnsRepeated ds = (a b : Next) (f : Factor) (sep : Option Factor) (x : Sym) (i j : ℕ) → RepeatBecomes g rules a f sep x b → Repeats g s ds f sep i j → lift rules (lower_repeated rules ds (rule_in x)) ≡ list ds

  -- a node of a rule of this kind
  pub lifted_as : (r n : ℕ) (k : Kind) (lines : List (List Sym)) (ds : FlatTrees) → HasFlat rules r k lines → lift rules (flat_node r n ds) ≡ lifted k r n (lift_all rules ds)
  lifted_as r n k lines ds f = ap (λ z. lifted z r n (lift_all rules ds)) (kind_is g rules r k lines f)

  return_seq : (ds : Trees) → AllReturn ds → (r n : ℕ) (k : Kind) (lines : List (List Sym)) (syms : List Sym) → HasFlat rules r k lines → slice_get lines n ≡ Some syms →
      (c d : Next) (ts : List Term) → TermsBecome g rules c ts syms d → (i j : ℕ) → DerivesFirst g s ds ts i j → lift_all rules (lower_all rules ds r n) ≡ ds
  return_seq no_tree l r n k lines syms f e c d ts b i j h = refl
  return_seq (and ds x) l r n k lines syms f e c d ts b i j h =
      let m = to_term g rules c d ts syms b (tree_count ds) h.1 h.3 in
      let p = return_seq ds l.0 r n k lines syms f e c d ts b i h.0 h.2 in
      let q : lift rules (lower rules x (sym_at rules r n (tree_count ds))) ≡ x =
      subst (λ z. lift rules (lower rules x z) ≡ x) (sym (sym_is g rules r n (tree_count ds) k lines syms m.0 f e m.3)) (l.1 m.1 m.2 h.1 m.0 h.0 j m.4 h.4) in
      cc (p, q)

  return_line : (ds : Trees) → AllReturn ds → (r n : ℕ) (k : Kind) (lines : List (List Sym)) → HasFlat rules r k lines → (c d : Next) (alts : List Alt) → AltsBecome g rules c alts lines d →
      (alt : Alt) → slice_get alts n ≡ Some alt → (i j : ℕ) → DerivesFirst g s ds alt.terms i j → lift_all rules (lower_all rules ds r n) ≡ ds
  return_line ds l r n k lines f c d alts b alt e i j h =
      let m = to_alt g rules c d alts lines b n alt e in
      return_seq ds l r n k lines m.0 f m.3 m.1 m.2 alt.terms m.4 i j h

  -- the one child of a helper's line
  return_only : (d : Tree) → Returns d → (r n m : ℕ) (k : Kind) (lines : List (List Sym)) (syms : List Sym) (c e : Next) (f : Factor) (y : Sym) (i j : ℕ) → HasFlat rules r k lines → slice_get lines n ≡ Some syms → slice_get syms m ≡ Some y → FactorBecomes g rules c f y e → Derives g s d (One f) i j →
      lift rules (lower rules d (sym_at rules r n m)) ≡ d
  return_only d l r n m k lines syms c e f y i j p q o b h =
      subst (λ z. lift rules (lower rules d z) ≡ d) (sym (sym_is g rules r n m k lines syms y p q o)) (l c e (One f) y i j (X.alone c e f y b) h)

  module _ (x : Expanded g rules) (u : HasUniqueNames g) where
    node_returns : (q n : ℕ) (ds : Trees) → AllReturn ds → Returns (node q n ds)
    node_returns q n ds l a b t z i j k h =
        let c = of_call g rules a b (Call h.0.0 h.0.1) z (of_one g rules a b t z k (Call h.0.0 h.0.1) h.0.2) h.0.0 h.0.1 refl in
        let e : q ≡ c.0 = u q c.0 h.0.1 h.0.3 c.2 in
        let at : slice_get g.rules c.0 ≡ Some h.2.0 = ap (slice_get g.rules) (sym e) ∙ h.2.1 in
        let w = rules_at g rules 0 _ _ g.rules x.walk c.0 h.2.0 at in
        let f : HasFlat rules c.0 kind.Named w.0 = subst (λ (y : ℕ). HasFlat rules y kind.Named w.0) (omega arith) w.3 in
        let p = return_line ds l c.0 n kind.Named w.0 f w.1 w.2 h.2.0.alts w.4 h.2.2.0 h.2.2.1 i j (subst (λ ts. DerivesFirst g s ds ts i j) (sym h.2.2.2) h.4) in
        subst (λ y. lift rules (lower rules (node q n ds) y) ≡ node q n ds) (sym c.1)
        (lifted_as c.0 n kind.Named w.0 (lower_all rules ds c.0 n) f ∙ ap (node c.0 n) p ∙ ap (λ (m : ℕ). node m n ds) (sym e))

    group_returns : (n : ℕ) (ds : Trees) → AllReturn ds → Returns (group n ds)
    group_returns n ds l a b t z i j k h =
        let c = of_group g rules a b (Group h.1.0) z (of_one g rules a b t z k (Group h.1.0) h.1.1) h.1.0 refl in
        let p = return_line ds l a.rule n kind.Group c.0 c.2 _ b h.1.0 c.3 h.1.2.0 h.1.2.1 i j (subst (λ ts. DerivesFirst g s ds ts i j) (sym h.1.2.2) h.3) in
        subst (λ y. lift rules (lower rules (group n ds) y) ≡ group n ds) (sym c.1)
        (lifted_as a.rule n kind.Group c.0 (lower_all rules ds a.rule n) c.2 ∙ ap (group n) p)

    present_returns : (d : Tree) → Returns d → Returns (present d)
    present_returns d l a b t z i j k h =
        let c = of_option g rules a b t z k h.0 h.1 in
        let p = return_only d l a.rule 0 0 kind.Opt ((c.0 ∷ []) ∷ [] ∷ []) (c.0 ∷ []) _ b h.0 c.0 i j c.2 refl refl c.3 h.2 in
        subst (λ y. lift rules (lower rules (present d) y) ≡ present d) (sym c.1)
        (lifted_as a.rule 0 kind.Opt ((c.0 ∷ []) ∷ [] ∷ []) (flats_and no_flat (lower rules d (sym_at rules a.rule 0 0))) c.2 ∙ ap present p)

    absent_returns : Returns absent
    absent_returns a b t z i j k h =
        let c = of_option g rules a b t z k h.0 h.1 in
        subst (λ y. lift rules (lower rules absent y) ≡ absent) (sym c.1) (lifted_as a.rule 1 kind.Opt ((c.0 ∷ []) ∷ [] ∷ []) no_flat c.2)

    no_item_returns : Returns no_item
    no_item_returns a b t z i j k h =
        let c = of_star g rules a b t z k h.0 h.1 h.2 in
        subst (λ y. lift rules (lower rules no_item y) ≡ no_item) (sym c.1) (lifted_as a.rule 0 kind.Star ([] ∷ (c.0 ∷ []) ∷ []) no_flat c.2)

    one_returns : (d : Tree) → Returns d → ReturnsRepeated (one d)
    one_returns d l a b f sep z i j k h =
        let c = of_repeat g rules a b f sep z k in
        let lines : List (List Sym) = (c.0 ∷ []) ∷ next_syms a.rule c.0 c.1 ∷ [] in
        let p = return_only d l a.rule 0 0 kind.List lines (c.0 ∷ []) _ c.2 f c.0 i j c.4 refl refl c.5 h in
        subst (λ y. lift rules (lower_repeated rules (one d) (rule_in y)) ≡ list (one d)) (sym c.3)
        (lifted_as a.rule 0 kind.List lines (flats_and no_flat (lower rules d (sym_at rules a.rule 0 0))) c.4 ∙ ap (λ e. list (one e)) p)

    again_returns : (ds : Repeated) (d : Tree) → ReturnsRepeated ds → Returns d → ReturnsRepeated (again ds d)
    again_returns ds d m l a b f sep z i j k h =
        let c = of_repeat g rules a b f sep z k in
        let o = of_none g rules c.2 b sep c.1 c.6 h.0 in
        let lines : List (List Sym) = (c.0 ∷ []) ∷ next_syms a.rule c.0 c.1 ∷ [] in
        let syms : slice_get ((c.0 ∷ []) ∷ next_syms a.rule c.0 c.1 ∷ []) 1 ≡ Some (sy.Rule a.rule None ∷ c.0 ∷ []) = ap (λ v. Some (next_syms a.rule c.0 v)) o in
        let p = return_only d l a.rule 1 1 kind.List lines (sy.Rule a.rule None ∷ c.0 ∷ []) _ c.2 f c.0 h.1 j c.4 syms refl c.5 h.3 in
        let q : lift rules (lower_repeated rules ds a.rule) ≡ list ds = subst (λ v. lift rules (lower_repeated rules ds (rule_in v)) ≡ list ds) c.3 (m a b f sep z i h.1 k h.2) in
        subst (λ y. lift rules (lower_repeated rules (again ds d) (rule_in y)) ≡ list (again ds d)) (sym c.3)
        (lifted_as a.rule 1 kind.List lines (flats_and (flats_and no_flat (lower_repeated rules ds a.rule)) (lower rules d (sym_at rules a.rule 1 1))) c.4
        ∙ ap (λ e. list (again (parts e) (lift rules (lower rules d (sym_at rules a.rule 1 1))))) q ∙ ap (λ e. list (again ds e)) p)

    again_after_returns : (ds : Repeated) (e d : Tree) → ReturnsRepeated ds → Returns e → Returns d → ReturnsRepeated (again_after ds e d)
    again_after_returns ds e d m le l a b f sep z i j k h =
        let c = of_repeat g rules a b f sep z k in
        let o = of_some g rules c.2 b sep c.1 c.6 h.0 h.1 in
        let lines : List (List Sym) = (c.0 ∷ []) ∷ next_syms a.rule c.0 c.1 ∷ [] in
        let syms : slice_get ((c.0 ∷ []) ∷ next_syms a.rule c.0 c.1 ∷ []) 1 ≡ Some (sy.Rule a.rule None ∷ o.0 ∷ c.0 ∷ []) = ap (λ v. Some (next_syms a.rule c.0 v)) o.1 in
        let p = return_only d l a.rule 1 2 kind.List lines (sy.Rule a.rule None ∷ o.0 ∷ c.0 ∷ []) _ c.2 f c.0 h.3 j c.4 syms refl c.5 h.6 in
        let r = return_only e le a.rule 1 1 kind.List lines (sy.Rule a.rule None ∷ o.0 ∷ c.0 ∷ []) c.2 b h.0 o.0 h.2 h.3 c.4 syms refl o.2 h.5 in
        let q : lift rules (lower_repeated rules ds a.rule) ≡ list ds = subst (λ v. lift rules (lower_repeated rules ds (rule_in v)) ≡ list ds) c.3 (m a b f sep z i h.2 k h.4) in
        subst (λ y. lift rules (lower_repeated rules (again_after ds e d) (rule_in y)) ≡ list (again_after ds e d)) (sym c.3)
        (lifted_as a.rule 1 kind.List lines (flats_and (flats_and (flats_and no_flat (lower_repeated rules ds a.rule)) (lower rules e (sym_at rules a.rule 1 1))) (lower rules d (sym_at rules a.rule 1 2))) c.4
        ∙ ap (λ v. list (again_after (parts v) (lift rules (lower rules e (sym_at rules a.rule 1 1))) (lift rules (lower rules d (sym_at rules a.rule 1 2))))) q
        ∙ ap (λ v. list (again_after ds v (lift rules (lower rules d (sym_at rules a.rule 1 2))))) r ∙ ap (λ v. list (again_after ds e v)) p)

    plus_returns : (ds : Repeated) → ReturnsRepeated ds → (a b : Next) (f : Factor) (sep : Option Factor) (z : Sym) (i j : ℕ) → RepeatBecomes g rules a f sep z b → Repeats g s ds f sep i j → lift rules (lower rules (list ds) z) ≡ list ds
    plus_returns ds m a b f sep z i j k h =
        let c = of_repeat g rules a b f sep z k in
        subst (λ v. lift rules (lower rules (list ds) v) ≡ list ds) (sym c.3)
        (ap (λ v. lift rules (starred rules v a.rule (λ p. lower_repeated rules ds p))) (kind_is g rules a.rule kind.List ((c.0 ∷ []) ∷ next_syms a.rule c.0 c.1 ∷ []) c.4)
        ∙ subst (λ v. lift rules (lower_repeated rules ds (rule_in v)) ≡ list ds) c.3 (m a b f sep z i j k h))

    star_returns : (ds : Repeated) → ReturnsRepeated ds → (a b : Next) (f : Factor) (sep : Option Factor) (z : Sym) (i j : ℕ) → IsStarred g rules a f sep z b → Repeats g s ds f sep i j → lift rules (lower rules (list ds) z) ≡ list ds
    star_returns ds m a b f sep z i j c h =
        let y = sym_is g rules a.rule 1 0 kind.Star ([] ∷ (c.0 ∷ []) ∷ []) (c.0 ∷ []) c.0 c.2 refl refl in
        let q : lift rules (lower_repeated rules ds (rule_in (sym_at rules a.rule 1 0))) ≡ list ds = subst (λ v. lift rules (lower_repeated rules ds (rule_in v)) ≡ list ds) (sym y) (m _ b f sep c.0 i j c.3 h) in
        subst (λ v. lift rules (lower rules (list ds) v) ≡ list ds) (sym c.1)
        (ap (λ v. lift rules (starred rules v a.rule (λ p. lower_repeated rules ds p))) (kind_is g rules a.rule kind.Star ([] ∷ (c.0 ∷ []) ∷ []) c.2)
        ∙ lifted_as a.rule 1 kind.Star ([] ∷ (c.0 ∷ []) ∷ []) (flats_and no_flat (lower_repeated rules ds (rule_in (sym_at rules a.rule 1 0)))) c.2 ∙ q)

    list_returns : (ds : Repeated) → ReturnsRepeated ds → Returns (list ds)
    list_returns ds m a b t z i j k (f, sep, inl p, h) = plus_returns ds m a b f sep z i j (of_plus g rules a b t z k f sep p) h
    list_returns ds m a b t z i j k (f, sep, inr p, h) = star_returns ds m a b f sep z i j (of_star g rules a b t z k f sep p) h

    mutual
      pub returns : (d : Tree) → Returns d
      returns (text p q) = λ a b t z i j k h. refl
      returns insertion = λ a b t z i j k h. refl
      returns (node q n ds) = node_returns q n ds (all_return ds)
      returns (group n ds) = group_returns n ds (all_return ds)
      returns (present d) = present_returns d (returns d)
      returns absent = absent_returns
      returns no_item = no_item_returns
      returns (list ds) = list_returns ds (repeated_return ds)

      pub all_return : (ds : Trees) → AllReturn ds
      all_return no_tree = tt
      all_return (and ds d) = (all_return ds, returns d)

      pub repeated_return : (ds : Repeated) → ReturnsRepeated ds
      repeated_return (one d) = one_returns d (returns d)
      repeated_return (again ds d) = again_returns ds d (repeated_return ds) (returns d)
      repeated_return (again_after ds e d) = again_after_returns ds e d (repeated_return ds) (returns e) (returns d)

    -- a derivation of the text
    pub lift_lower : (d : Tree) → IsDerivation g s d → lift rules (lower rules d (sy.Rule 0 None)) ≡ d
    lift_lower d (n, terms, ds, e, (rule, at, (alt, at_alt, same)), h) =
        let w = rules_at g rules 0 _ _ g.rules x.walk 0 rule at in
        let f : HasFlat rules 0 kind.Named w.0 = subst (λ (y : ℕ). HasFlat rules y kind.Named w.0) (omega arith) w.3 in
        let p = return_line ds (all_return ds) 0 n kind.Named w.0 f w.1 w.2 rule.alts w.4 alt at_alt 0 (length s) (subst (λ ts. DerivesFirst g s ds ts 0 (length s)) (sym same) h.1) in
        subst (λ y. lift rules (lower rules y (sy.Rule 0 None)) ≡ y) (sym e) (lifted_as 0 n kind.Named w.0 (lower_all rules ds 0 n) f ∙ ap (node 0 n) p)
