-- The walk of a derivation over the numbered rules is the walk of the bare tree of its written tree.
use Rattle.std.proofs.Common.{◌≡◌, refl, ap, sym, subst, ◌∙◌, ℕ, List, [], ◌∷◌, ◌++◌, map, length, append_assoc, append-nil, Option, Some, None, arith, slice_get, get_or}
use Rattle.std.specs.Prelude.{Bool, unwrap_or, option_map, option_and_then}
use Rattle.std.proofs.lemmas.Option.{get_or_from_slice_get}
use mathlib.Core.Logic.{inl, inr}
use Rattle.ix_model.specs.declared.grammar.Grammar.{Grammar}
use Rattle.ix_model.specs.declared.grammar.Rule.{Rule}
use Rattle.ix_model.specs.declared.grammar.Mark.{Mark}
use Rattle.ix_model.specs.declared.grammar.Mark.TheVariants.{Element}
use Rattle.ix_model.specs.declared.grammar.Alt.{Alt}
use Rattle.ix_model.specs.declared.grammar.Term.{Term, One}
use Rattle.ix_model.specs.declared.grammar.Factor.{Factor, Lit, Set, Call, Insert, Group}
use Rattle.ix_model.specs.declared.rules.Kind.{Kind}
use Rattle.ix_model.specs.declared.rules.Kind.TheVariants as kind
use Rattle.ix_model.specs.declared.rules.Sym.{Sym}
use Rattle.ix_model.specs.declared.rules.Sym.TheVariants as sy
use Rattle.ix_model.specs.declared.rules.Rules.{Rules}
use Rattle.ix_model.specs.declared.step.Step.{Step}
use Rattle.ix_model.specs.declared.step.Step.TheVariants as step
use Rattle.ix_model.specs.Matching.Codes.{characters}
use Rattle.ix_model.specs.Grammars.Names.{HasUniqueNames}
use Rattle.ix_model.specs.Derivations.Trees.{Tree, text, insertion, node, group, present, absent, no_item, list, Trees, no_tree, and, Repeated, one, again, again_after, tree_count}
use Rattle.ix_model.specs.Derivations.Derives.{Derives, DerivesFirst, Repeats, IsDerivation}
use Rattle.ix_model.specs.Documents.Bare.{Bare, bare_text, bare_insertion, bare_node, Bares, none, more, join, factor_of, separator_of, is_shown_by, terms_at, effective, rule_alts, rule_name, rule_mark, bare, bare_all, bare_repeated, bare_root, no_term}
use Rattle.ix_model.specs.Expansion.Parts.{Parts}
use Rattle.ix_model.specs.Expansion.Planned.{IsPlanOf}
use Rattle.ix_model.specs.Expansion.FlatTrees.{FlatTree, FlatTrees, flat_node, flats_and, no_flat}
use Rattle.ix_model.specs.Expansion.FlatDerives.{IsFlatDerivation}
use Rattle.ix_model.specs.Expansion.Lift.{lift}
use Rattle.ix_model.specs.Expansion.Expanded as X
use Rattle.ix_model.specs.Expansion.Expanded.{Next, next_syms, HasFlat, TermBecomes, RepeatBecomes, FactorBecomes, AltsBecome, TermsBecome, Expanded}
use Rattle.ix_model.specs.Expansion.Numbered.{kind_at, mark_at, sym_at}
use Rattle.ix_model.specs.Expansion.Lower.{lower, lower_all, lower_repeated, starred, rule_in}
use Rattle.ix_model.specs.Expansion.Walk.{walk, walk_all, wrapped, mark_of}
use Rattle.ix_model.specs.Documents.WalkGives.{IsWalk, AreWalks}
use Rattle.ix_model.proofs.Forming.{factor_of_one, factor_of_opt, factor_of_star, factor_of_plus, separator_of_star, separator_of_plus}
use Rattle.ix_model.proofs.Forms.{out_lit, out_set, out_call, out_insert, out_group}
use Rattle.ix_model.proofs.Readers.{get_within}
use Rattle.ix_expansion_laws.proofs.Lifting.{kind_is, rules_at, lift_derives}
use Rattle.ix_expansion_laws.proofs.LowerOfLift.{lower_lift}
use Rattle.ix_expansion_laws.proofs.Lowering.{to_alt, to_term, sym_is, map_get, lower_count, of_one, of_option, of_plus, of_star, of_literal, of_set, of_insert, of_call, of_group, of_repeat, of_none, of_some, IsStarred}

-- the walks of some bare trees, and of others behind them
pub join_walks : (rules : Rules) (bs cs : Bares) (xs ys : List Step) → AreWalks rules bs xs → AreWalks rules cs ys → AreWalks rules (join bs cs) (xs ++ ys)
join_walks rules none cs xs ys h k = subst (λ (zs : List Step). AreWalks rules cs (zs ++ ys)) (sym h) k
join_walks rules (more b bs) cs xs ys h k =
    (h.0, h.1 ++ ys, h.2, join_walks rules bs cs h.1 ys h.3 k, ap (λ (zs : List Step). zs ++ ys) h.4 ∙ append_assoc h.0 h.1 ys)

-- the walk of one bare tree
one_walk : (rules : Rules) (b : Bare) (xs : List Step) → IsWalk rules b xs → AreWalks rules (more b none) xs
one_walk rules b xs h = (xs, [], h, refl, sym (append-nil xs))

text_walk : (rules : Rules) (p q : ℕ) (shown : Bool) → AreWalks rules (more (bare_text p q shown) none) (step.Text p q shown ∷ [])
text_walk rules p q shown = one_walk rules (bare_text p q shown) (step.Text p q shown ∷ []) refl

-- the mark of a call is before that of its rule
effective_mark : (r : ℕ) (m rm : Option Mark) → mark_of (sy.Rule r m) (effective None rm) ≡ effective m rm
effective_mark r (Some m) rm = refl
effective_mark r None (Some m) = refl
effective_mark r None None = refl

module _ (g : Grammar) (rules : Rules) (s : List ℕ) where
  abbrev Walks : Tree → Type 0
  Walks d = (a b : Next) (t : Term) (x : Sym) (i j : ℕ) → TermBecomes g rules a t x b → Derives g s d t i j → AreWalks rules (bare g d t) (walk rules (lower rules d x) x)

  abbrev AllWalk : Trees → Type 0
  AllWalk no_tree = Unit {0}
  AllWalk (and ds d) = AllWalk ds × Walks d

  -- t is the repetition of f and sep
  abbrev WalksRepeated : Repeated → Type 0
  WalksRepeated ds = (a b : Next) (t : Term) (f : Factor) (sep : Option Factor) (x : Sym) (i j : ℕ) → factor_of t ≡ f → separator_of t ≡ sep → RepeatBecomes g rules a f sep x b → Repeats g s ds f sep i j →
      AreWalks rules (bare_repeated g ds t) (walk rules (lower_repeated rules ds (rule_in x)) x)

  -- the walk of a helper's node is that of its parts
  passed : (r n : ℕ) (x : Sym) (ds : FlatTrees) (k : Kind) → kind_at rules r ≡ k → wrapped k r (mark_of x (mark_at rules r)) (walk_all rules ds r n) ≡ walk rules (flat_node r n ds) x
  passed r n x ds k e = ap (λ z. wrapped z r (mark_of x (mark_at rules r)) (walk_all rules ds r n)) (sym e)

  walk_seq : (ds : Trees) → AllWalk ds → (r n : ℕ) (k : Kind) (lines : List (List Sym)) (syms : List Sym) → HasFlat rules r k lines → slice_get lines n ≡ Some syms →
      (c d : Next) (ts : List Term) → TermsBecome g rules c ts syms d → (i j : ℕ) → DerivesFirst g s ds ts i j → AreWalks rules (bare_all g ds ts) (walk_all rules (lower_all rules ds r n) r n)
  walk_seq no_tree l r n k lines syms f e c d ts b i j h = refl
  walk_seq (and ds x) l r n k lines syms f e c d ts b i j h =
      let m = to_term g rules c d ts syms b (tree_count ds) h.1 h.3 in
      let y = sym_is g rules r n (tree_count ds) k lines syms m.0 f e m.3 in
      let z = ap (sym_at rules r n) (lower_count rules ds r n) ∙ y in
      let t : get_or ts (tree_count ds) no_term ≡ h.1 = get_or_from_slice_get ts (tree_count ds) h.1 no_term h.3 in
      let p = walk_seq ds l.0 r n k lines syms f e c d ts b i h.0 h.2 in
      let q = l.1 m.1 m.2 h.1 m.0 h.0 j m.4 h.4 in
      let q1 = subst (λ (v : Term). AreWalks rules (bare g x v) (walk rules (lower rules x m.0) m.0)) (sym t) q in
      let q2 = subst (λ (v : Sym). AreWalks rules (bare g x (get_or ts (tree_count ds) no_term)) (walk rules (lower rules x v) m.0)) (sym y) q1 in
      let q3 = subst (λ (v : Sym). AreWalks rules (bare g x (get_or ts (tree_count ds) no_term)) (walk rules (lower rules x (sym_at rules r n (tree_count ds))) v)) (sym z) q2 in
      join_walks rules (bare_all g ds ts) _ (walk_all rules (lower_all rules ds r n) r n) _ p q3

  walk_line : (ds : Trees) → AllWalk ds → (r n : ℕ) (k : Kind) (lines : List (List Sym)) → HasFlat rules r k lines → (c d : Next) (alts : List Alt) → AltsBecome g rules c alts lines d →
      (alt : Alt) → slice_get alts n ≡ Some alt → (i j : ℕ) → DerivesFirst g s ds alt.terms i j → AreWalks rules (bare_all g ds (terms_at alts n)) (walk_all rules (lower_all rules ds r n) r n)
  walk_line ds l r n k lines f c d alts b alt e i j h =
      let m = to_alt g rules c d alts lines b n alt e in
      let q : terms_at alts n ≡ alt.terms = ap (λ (o : Option Alt). unwrap_or (option_map (λ (v : Alt). v.terms) o) []) e in
      subst (λ (ts : List Term). AreWalks rules (bare_all g ds ts) (walk_all rules (lower_all rules ds r n) r n)) (sym q)
      (walk_seq ds l r n k lines m.0 f m.3 m.1 m.2 alt.terms m.4 i j h)

  -- the one child of a helper's line, by its factor
  walk_only : (d : Tree) → Walks d → (r n m : ℕ) (k : Kind) (lines : List (List Sym)) (syms : List Sym) (c e : Next) (f : Factor) (y : Sym) (i j : ℕ) → HasFlat rules r k lines → slice_get lines n ≡ Some syms → slice_get syms m ≡ Some y → FactorBecomes g rules c f y e → Derives g s d (One f) i j →
      AreWalks rules (bare g d (One f)) (walk rules (lower rules d (sym_at rules r n m)) (sym_at rules r n m))
  walk_only d l r n m k lines syms c e f y i j p q o b h =
      subst (λ (z : Sym). AreWalks rules (bare g d (One f)) (walk rules (lower rules d z) z)) (sym (sym_is g rules r n m k lines syms y p q o)) (l c e (One f) y i j (X.alone c e f y b) h)

  -- ---- texts and insertions

  text_walks : (p q : ℕ) → Walks (text p q)
  text_walks p q a b t x i j k (h, h', inl m) =
      let f = of_literal g rules a b (Lit m.0 m.1) x (of_one g rules a b t x k (Lit m.0 m.1) m.2) m.0 m.1 refl in
      rw (f.0, m.2, factor_of_one (Lit m.0 m.1), out_lit m.0 m.1) (text_walk rules p q (is_shown_by m.0))
  text_walks p q a b t x i j k (h, h', inr m) =
      let f = of_set g rules a b (Set m.0 m.1 m.2) x (of_one g rules a b t x k (Set m.0 m.1 m.2) m.4) m.0 m.1 m.2 refl in
      rw (f.0, m.4, factor_of_one (Set m.0 m.1 m.2), out_set m.0 m.1 m.2) (text_walk rules p q (is_shown_by m.0))

  insertion_walks : Walks insertion
  insertion_walks a b t x i j k h =
      let f = of_insert g rules a b (Insert h.1.0) x (of_one g rules a b t x k (Insert h.1.0) h.1.1) h.1.0 refl in
      rw (f.0, h.1.1, factor_of_one (Insert h.1.0), out_insert h.1.0)
      (one_walk rules (bare_insertion (characters h.1.0)) (step.Insert a.insert ∷ []) (a.insert, f.1, refl))

  -- ---- nodes

  module _ (x : Expanded g rules) (u : HasUniqueNames g) where
    named_walk : (q n : ℕ) (ds : Trees) (m : Option Mark) (rule : Rule) → slice_get g.rules q ≡ Some rule → kind_at rules q ≡ kind.Named → AreWalks rules (bare_all g ds (terms_at rule.alts n)) (walk_all rules (lower_all rules ds q n) q n) →
        IsWalk rules (bare_node (rule_name g q) (effective m (rule_mark g q)) (bare_all g ds (terms_at (rule_alts g q) n))) (walk rules (flat_node q n (lower_all rules ds q n)) (sy.Rule q m))
    named_walk q n ds m rule at k w = (q, inner, named, walks, steps)
      where
        inner : List Step
        inner = walk_all rules (lower_all rules ds q n) q n

        name : rule_name g q ≡ rule.name
        name = ap (λ (o : Option Rule). unwrap_or (option_map (λ (v : Rule). v.name) o) []) at

        named : slice_get rules.names q ≡ Some (rule_name g q)
        named = ap (λ (ns : List (List ℕ)). slice_get ns q) x.names ∙ map_get (λ (v : Rule). v.name) g.rules q rule at ∙ ap (λ (v : List ℕ). Some v) (sym name)

        walks : AreWalks rules (bare_all g ds (terms_at (rule_alts g q) n)) inner
        walks =
            let o : rule_alts g q ≡ rule.alts = ap (λ (o : Option Rule). unwrap_or (option_map (λ (v : Rule). v.alts) o) []) at in
            subst (λ (alts : List Alt). AreWalks rules (bare_all g ds (terms_at alts n)) inner) (sym o) w

        mark : mark_of (sy.Rule q m) (mark_at rules q) ≡ effective m (rule_mark g q)
        mark =
            let e : mark_at rules q ≡ effective None rule.mark = ap (λ (ms : List Mark). get_or ms q Element) x.marks ∙ get_or_from_slice_get (map (λ (v : Rule). effective None v.mark) g.rules) q (effective None rule.mark) Element (map_get (λ (v : Rule). effective None v.mark) g.rules q rule at) in
            let o : rule_mark g q ≡ rule.mark = ap (λ (o : Option Rule). option_and_then (λ (v : Rule). v.mark) o) at in
            ap (mark_of (sy.Rule q m)) e ∙ effective_mark q m rule.mark ∙ ap (effective m) (sym o)

        steps : walk rules (flat_node q n (lower_all rules ds q n)) (sy.Rule q m) ≡ step.Enter q (effective m (rule_mark g q)) ∷ inner ++ step.Leave ∷ []
        steps = ap (λ z. wrapped z q (mark_of (sy.Rule q m) (mark_at rules q)) inner) k ∙ ap (λ z. step.Enter q z ∷ inner ++ step.Leave ∷ []) mark

    -- a derivation's node is a rule of the grammar
    opened : (q n : ℕ) (ds : Trees) → AllWalk ds → (m : Option Mark) (rule : Rule) (alt : Alt) (i j : ℕ) → slice_get g.rules q ≡ Some rule → slice_get rule.alts n ≡ Some alt → DerivesFirst g s ds alt.terms i j →
        IsWalk rules (bare_node (rule_name g q) (effective m (rule_mark g q)) (bare_all g ds (terms_at (rule_alts g q) n))) (walk rules (flat_node q n (lower_all rules ds q n)) (sy.Rule q m))
    opened q n ds l m rule alt i j at e h =
        let w = rules_at g rules 0 _ _ g.rules x.walk q rule at in
        let f : HasFlat rules q kind.Named w.0 = subst (λ (y : ℕ). HasFlat rules y kind.Named w.0) (omega arith) w.3 in
        named_walk q n ds m rule at (kind_is g rules q kind.Named w.0 f) (walk_line ds l q n kind.Named w.0 f w.1 w.2 rule.alts w.4 alt e i j h)

    node_walks : (q n : ℕ) (ds : Trees) → AllWalk ds → Walks (node q n ds)
    node_walks q n ds l a b t z i j k h =
        let c = of_call g rules a b (Call h.0.0 h.0.1) z (of_one g rules a b t z k (Call h.0.0 h.0.1) h.0.2) h.0.0 h.0.1 refl in
        let e : c.0 ≡ q = sym (u q c.0 h.0.1 h.0.3 c.2) in
        let o = opened q n ds l h.0.0 h.2.0 h.2.2.0 i j h.2.1 h.2.2.1 (subst (λ ts. DerivesFirst g s ds ts i j) (sym h.2.2.2) h.4) in
        rw (c.1, e, h.0.2, factor_of_one (Call h.0.0 h.0.1), out_call h.0.0 h.0.1) (one_walk rules (bare_node (rule_name g q) (effective h.0.0 (rule_mark g q)) (bare_all g ds (terms_at (rule_alts g q) n))) _ o)

    group_walks : (n : ℕ) (ds : Trees) → AllWalk ds → Walks (group n ds)
    group_walks n ds l a b t z i j k h =
        let c = of_group g rules a b (Group h.1.0) z (of_one g rules a b t z k (Group h.1.0) h.1.1) h.1.0 refl in
        let p = walk_line ds l a.rule n kind.Group c.0 c.2 _ b h.1.0 c.3 h.1.2.0 h.1.2.1 i j (subst (λ ts. DerivesFirst g s ds ts i j) (sym h.1.2.2) h.3) in
        let q = subst (λ (zs : List Step). AreWalks rules (bare_all g ds (terms_at h.1.0 n)) zs) (passed a.rule n (sy.Rule a.rule None) (lower_all rules ds a.rule n) kind.Group (kind_is g rules a.rule kind.Group c.0 c.2)) p in
        rw (c.1, h.1.1, factor_of_one (Group h.1.0), out_group h.1.0) q

    -- ---- options

    present_walks : (d : Tree) → Walks d → Walks (present d)
    present_walks d l a b t z i j k h =
        let c = of_option g rules a b t z k h.0 h.1 in
        let lines : List (List Sym) = (c.0 ∷ []) ∷ [] ∷ [] in
        let p = walk_only d l a.rule 0 0 kind.Opt lines (c.0 ∷ []) _ b h.0 c.0 i j c.2 refl refl c.3 h.2 in
        let q = subst (λ (zs : List Step). AreWalks rules (bare g d (One h.0)) zs) (passed a.rule 0 (sy.Rule a.rule None) (flats_and no_flat (lower rules d (sym_at rules a.rule 0 0))) kind.Opt (kind_is g rules a.rule kind.Opt lines c.2)) p in
        rw (c.1, h.1, factor_of_opt h.0) q

    absent_walks : Walks absent
    absent_walks a b t z i j k h =
        let c = of_option g rules a b t z k h.0 h.1 in
        rw c.1 (sym (passed a.rule 1 (sy.Rule a.rule None) no_flat kind.Opt (kind_is g rules a.rule kind.Opt ((c.0 ∷ []) ∷ [] ∷ []) c.2)))

    no_item_walks : Walks no_item
    no_item_walks a b t z i j k h =
        let c = of_star g rules a b t z k h.0 h.1 h.2 in
        rw c.1 (sym (passed a.rule 0 (sy.Rule a.rule None) no_flat kind.Star (kind_is g rules a.rule kind.Star ([] ∷ (c.0 ∷ []) ∷ []) c.2)))

    -- ---- repetitions

    one_walks : (d : Tree) → Walks d → WalksRepeated (one d)
    one_walks d l a b t f sep z i j tf ts k h =
        let c = of_repeat g rules a b f sep z k in
        let lines : List (List Sym) = (c.0 ∷ []) ∷ next_syms a.rule c.0 c.1 ∷ [] in
        let p = walk_only d l a.rule 0 0 kind.List lines (c.0 ∷ []) _ c.2 f c.0 i j c.4 refl refl c.5 h in
        let q = subst (λ (zs : List Step). AreWalks rules (bare g d (One f)) zs) (passed a.rule 0 (sy.Rule a.rule None) (flats_and no_flat (lower rules d (sym_at rules a.rule 0 0))) kind.List (kind_is g rules a.rule kind.List lines c.4)) p in
        rw (c.3, tf) q

    again_walks : (ds : Repeated) (d : Tree) → WalksRepeated ds → Walks d → WalksRepeated (again ds d)
    again_walks ds d m l a b t f sep z i j tf ts k h =
        let c = of_repeat g rules a b f sep z k in
        let o = of_none g rules c.2 b sep c.1 c.6 h.0 in
        let lines : List (List Sym) = (c.0 ∷ []) ∷ next_syms a.rule c.0 c.1 ∷ [] in
        let line : List Sym = sy.Rule a.rule None ∷ c.0 ∷ [] in
        let syms : slice_get ((c.0 ∷ []) ∷ next_syms a.rule c.0 c.1 ∷ []) 1 ≡ Some (sy.Rule a.rule None ∷ c.0 ∷ []) = ap (λ v. Some (next_syms a.rule c.0 v)) o in
        let p = walk_only d l a.rule 1 1 kind.List lines line _ c.2 f c.0 h.1 j c.4 syms refl c.5 h.3 in
        let y = sym_is g rules a.rule 1 0 kind.List lines line (sy.Rule a.rule None) c.4 syms refl in
        let q = subst (λ (v : Sym). AreWalks rules (bare_repeated g ds t) (walk rules (lower_repeated rules ds (rule_in v)) v)) c.3 (m a b t f sep z i h.1 tf ts k h.2) in
        let q1 = subst (λ (v : Sym). AreWalks rules (bare_repeated g ds t) (walk rules (lower_repeated rules ds a.rule) v)) (sym y) q in
        let w = join_walks rules (bare_repeated g ds t) (bare g d (One f)) _ _ q1 p in
        let children : FlatTrees = flats_and (flats_and no_flat (lower_repeated rules ds a.rule)) (lower rules d (sym_at rules a.rule 1 1)) in
        let v = subst (λ (zs : List Step). AreWalks rules (join (bare_repeated g ds t) (bare g d (One f))) zs) (passed a.rule 1 (sy.Rule a.rule None) children kind.List (kind_is g rules a.rule kind.List lines c.4)) w in
        rw (c.3, tf) v

    again_after_walks : (ds : Repeated) (e d : Tree) → WalksRepeated ds → Walks e → Walks d → WalksRepeated (again_after ds e d)
    again_after_walks ds e d m le l a b t f sep z i j tf ts k h =
        let c = of_repeat g rules a b f sep z k in
        let o = of_some g rules c.2 b sep c.1 c.6 h.0 h.1 in
        let lines : List (List Sym) = (c.0 ∷ []) ∷ next_syms a.rule c.0 c.1 ∷ [] in
        let line : List Sym = sy.Rule a.rule None ∷ o.0 ∷ c.0 ∷ [] in
        let syms : slice_get ((c.0 ∷ []) ∷ next_syms a.rule c.0 c.1 ∷ []) 1 ≡ Some (sy.Rule a.rule None ∷ o.0 ∷ c.0 ∷ []) = ap (λ v. Some (next_syms a.rule c.0 v)) o.1 in
        let p = walk_only d l a.rule 1 2 kind.List lines line _ c.2 f c.0 h.3 j c.4 syms refl c.5 h.6 in
        let r = walk_only e le a.rule 1 1 kind.List lines line c.2 b h.0 o.0 h.2 h.3 c.4 syms refl o.2 h.5 in
        let y = sym_is g rules a.rule 1 0 kind.List lines line (sy.Rule a.rule None) c.4 syms refl in
        let q = subst (λ (v : Sym). AreWalks rules (bare_repeated g ds t) (walk rules (lower_repeated rules ds (rule_in v)) v)) c.3 (m a b t f sep z i h.2 tf ts k h.4) in
        let q1 = subst (λ (v : Sym). AreWalks rules (bare_repeated g ds t) (walk rules (lower_repeated rules ds a.rule) v)) (sym y) q in
        let tail = join_walks rules (bare g e (One h.0)) (bare g d (One f)) _ _ r p in
        let w = join_walks rules (bare_repeated g ds t) (join (bare g e (One h.0)) (bare g d (One f))) _ _ q1 tail in
        let order = sym (append_assoc (walk rules (lower_repeated rules ds a.rule) (sym_at rules a.rule 1 0)) (walk rules (lower rules e (sym_at rules a.rule 1 1)) (sym_at rules a.rule 1 1)) (walk rules (lower rules d (sym_at rules a.rule 1 2)) (sym_at rules a.rule 1 2))) in
        let children : FlatTrees = flats_and (flats_and (flats_and no_flat (lower_repeated rules ds a.rule)) (lower rules e (sym_at rules a.rule 1 1))) (lower rules d (sym_at rules a.rule 1 2)) in
        let v = subst (λ (zs : List Step). AreWalks rules (join (bare_repeated g ds t) (join (bare g e (One h.0)) (bare g d (One f)))) zs) (order ∙ passed a.rule 1 (sy.Rule a.rule None) children kind.List (kind_is g rules a.rule kind.List lines c.4)) w in
        rw (c.3, tf, ts ∙ h.1) v

    plus_walks : (ds : Repeated) → WalksRepeated ds → (a b : Next) (t : Term) (f : Factor) (sep : Option Factor) (z : Sym) (i j : ℕ) → factor_of t ≡ f → separator_of t ≡ sep → RepeatBecomes g rules a f sep z b → Repeats g s ds f sep i j →
        AreWalks rules (bare_repeated g ds t) (walk rules (lower rules (list ds) z) z)
    plus_walks ds m a b t f sep z i j tf ts k h =
        let c = of_repeat g rules a b f sep z k in
        let q = subst (λ (v : Sym). AreWalks rules (bare_repeated g ds t) (walk rules (lower_repeated rules ds (rule_in v)) v)) c.3 (m a b t f sep z i j tf ts k h) in
        rw (c.3, kind_is g rules a.rule kind.List ((c.0 ∷ []) ∷ next_syms a.rule c.0 c.1 ∷ []) c.4) q

    star_walks : (ds : Repeated) → WalksRepeated ds → (a b : Next) (t : Term) (f : Factor) (sep : Option Factor) (z : Sym) (i j : ℕ) → factor_of t ≡ f → separator_of t ≡ sep → IsStarred g rules a f sep z b → Repeats g s ds f sep i j →
        AreWalks rules (bare_repeated g ds t) (walk rules (lower rules (list ds) z) z)
    star_walks ds m a b t f sep z i j tf ts c h =
        let lines : List (List Sym) = [] ∷ (c.0 ∷ []) ∷ [] in
        let y = sym_is g rules a.rule 1 0 kind.Star lines (c.0 ∷ []) c.0 c.2 refl refl in
        let q = subst (λ (v : Sym). AreWalks rules (bare_repeated g ds t) (walk rules (lower_repeated rules ds (rule_in v)) v)) (sym y) (m _ b t f sep c.0 i j tf ts c.3 h) in
        let children : FlatTrees = flats_and no_flat (lower_repeated rules ds (rule_in (sym_at rules a.rule 1 0))) in
        let v = subst (λ (zs : List Step). AreWalks rules (bare_repeated g ds t) zs) (passed a.rule 1 (sy.Rule a.rule None) children kind.Star (kind_is g rules a.rule kind.Star lines c.2)) q in
        let o = kind_is g rules a.rule kind.Star lines c.2 in
        subst (λ (v : Sym). AreWalks rules (bare_repeated g ds t) (walk rules (lower rules (list ds) v) v)) (sym c.1)
        (subst (λ (w : Kind). AreWalks rules (bare_repeated g ds t) (walk rules (starred rules w a.rule (λ n. lower_repeated rules ds n)) (sy.Rule a.rule None))) (sym o) v)

    list_walks : (ds : Repeated) → WalksRepeated ds → Walks (list ds)
    list_walks ds m a b t z i j k (f, sep, inl p, h) = plus_walks ds m a b t f sep z i j (ap factor_of p ∙ factor_of_plus f sep) (ap separator_of p ∙ separator_of_plus f sep) (of_plus g rules a b t z k f sep p) h
    list_walks ds m a b t z i j k (f, sep, inr p, h) = star_walks ds m a b t f sep z i j (ap factor_of p ∙ factor_of_star f sep) (ap separator_of p ∙ separator_of_star f sep) (of_star g rules a b t z k f sep p) h

    mutual
      pub walks : (d : Tree) → Walks d
      walks (text p q) = text_walks p q
      walks insertion = insertion_walks
      walks (node q n ds) = node_walks q n ds (all_walk ds)
      walks (group n ds) = group_walks n ds (all_walk ds)
      walks (present d) = present_walks d (walks d)
      walks absent = absent_walks
      walks no_item = no_item_walks
      walks (list ds) = list_walks ds (repeated_walk ds)

      pub all_walk : (ds : Trees) → AllWalk ds
      all_walk no_tree = tt
      all_walk (and ds d) = (all_walk ds, walks d)

      pub repeated_walk : (ds : Repeated) → WalksRepeated ds
      repeated_walk (one d) = one_walks d (walks d)
      repeated_walk (again ds d) = again_walks ds d (repeated_walk ds) (walks d)
      repeated_walk (again_after ds e d) = again_after_walks ds e d (repeated_walk ds) (walks e) (walks d)

    -- the walk of a derivation of the text
    pub derivation_walks : (d : Tree) → IsDerivation g s d → AreWalks rules (bare_root g d) (walk rules (lower rules d (sy.Rule 0 None)) (sy.Rule 0 None))
    derivation_walks d (n, terms, ds, e, (rule, at, (alt, at_alt, same)), h) =
        let o = opened 0 n ds (all_walk ds) None rule alt 0 (length s) at at_alt (subst (λ ts. DerivesFirst g s ds ts 0 (length s)) (sym same) h.1) in
        subst (λ y. AreWalks rules (bare_root g y) (walk rules (lower rules y (sy.Rule 0 None)) (sy.Rule 0 None))) (sym e)
        (one_walk rules (bare_node (rule_name g 0) (effective None (rule_mark g 0)) (bare_all g ds (terms_at (rule_alts g 0) n))) _ o)

-- the walk of a flat derivation is that of the bare tree of its written tree
pub flat_walks : (g : Grammar) (plan : Parts) (e : FlatTree) → IsPlanOf g plan → IsFlatDerivation plan e →
    AreWalks plan.rules (bare_root g (lift plan.rules e)) (walk plan.rules e (sy.Rule 0 None))
flat_walks g plan e p h =
    let rule = get_within g.rules 0 p.first in
    let written = lift_derives g plan.rules plan.slots plan.text p.text p.expanded rule.0 rule.1 e h in
    let same = lower_lift g plan.rules plan.slots plan.text p.text p.expanded rule.0 rule.1 e h in
    let walks = derivation_walks g plan.rules plan.text p.expanded p.unique (lift plan.rules e) written in
    subst (λ y. AreWalks plan.rules (bare_root g (lift plan.rules e)) (walk plan.rules y (sy.Rule 0 None))) same walks
