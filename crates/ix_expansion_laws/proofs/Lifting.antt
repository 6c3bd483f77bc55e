-- What is derived over the numbered rules is derived over the written grammar.
use Rattle.std.proofs.Common.{◌≡◌, refl, ap, sym, subst, ◌∙◌, ◌+◌, ℕ, zero, suc, List, [], ◌∷◌, map, length, Option, Some, None, arith, slice_get, take, drop}
use Rattle.std.specs.List.{AllByRecursion}
use Rattle.std.specs.Char.{IsScalar}
use Rattle.ix_model.specs.Grammars.Written.{IsNamed}
use mathlib.Core.Logic.{inl, inr}
use Rattle.ix_model.specs.declared.grammar.Grammar.{Grammar}
use Rattle.ix_model.specs.declared.grammar.Rule.{Rule}
use Rattle.ix_model.specs.declared.grammar.Mark.{Mark}
use Rattle.ix_model.specs.declared.grammar.Alt.{Alt}
use Rattle.ix_model.specs.declared.grammar.Term.{Term, One, Opt, Star, Plus}
use Rattle.ix_model.specs.declared.grammar.Factor.{Factor, Call, Group}
use Rattle.ix_model.specs.declared.rules.Kind.{Kind}
use Rattle.ix_model.specs.declared.rules.Kind.TheVariants as kind
use Rattle.ix_model.specs.declared.rules.Sym.{Sym}
use Rattle.ix_model.specs.declared.rules.Sym.TheVariants as sy
use Rattle.ix_model.specs.declared.rules.Rules.{Rules}
use Rattle.ix_model.specs.declared.rules.Terminal.TheVariants as terminal
use Rattle.ix_model.specs.declared.plan.SlotInfo.{SlotInfo}
use Rattle.ix_model.specs.Expansion.Parts.{Parts}
use Rattle.ix_model.specs.Matching.Codes.{characters}
use Rattle.ix_model.specs.Derivations.Trees.{Tree, text, insertion, no_item, list, Repeated, one, again, again_after, tree_count}
use Rattle.ix_model.specs.Derivations.Derives.{Derives, DerivesFirst, Repeats, DerivesAll, IsDerivation}
use Rattle.ix_model.specs.Expansion.FlatTrees.{FlatTree, flat_text, flat_insertion, flat_node, FlatTrees, no_flat, flats_and, flat_count}
use Rattle.ix_model.specs.Expansion.FlatDerives.{FlatDerives, FlatDerivesFirst, IsLine, TerminalMatches}
use Rattle.ix_model.specs.Expansion.Expanded as X
use Rattle.ix_model.specs.Expansion.Expanded.{Next, line, next_syms, HasFlat, TermBecomes, RepeatBecomes, SeparatorBecomes, FactorBecomes, AltsBecome, TermsBecome, RulesBecome, Expanded}
use Rattle.ix_model.specs.Expansion.Numbered.{kind_at}
use Rattle.ix_model.specs.Expansion.Lift.{lift, lift_all, lifted, list_of, last_or, option_of, parts}
use Rattle.ix_expansion_laws.proofs.Children.{AllOf, one_child, two_children, three_children}

get_map : {A B : Type 0} (f : A → B) (xs : List A) (n : ℕ) (y : B) → slice_get (map f xs) n ≡ Some y → (x : A) × (slice_get xs n ≡ Some x) × (f x ≡ y)
get_map f [] n y e = absurd (cc e)
get_map f (x ∷ xs) zero y e = (x, refl, cc e)
get_map f (x ∷ xs) (suc n) y e = get_map f xs n y e

-- a character that stands in the text is one of its characters
pub stands_char : (cs : List ℕ) (i c : ℕ) → AllByRecursion IsScalar cs → take 1 (drop i cs) ≡ c ∷ [] → IsScalar c
stands_char [] zero c a e = absurd (cc e)
stands_char [] (suc i) c a e = absurd (cc e)
stands_char (y ∷ ys) zero c a e = let q : y ≡ c = cc e in subst IsScalar q a.0
stands_char (y ∷ ys) (suc i) c a e = stands_char ys i c a.1 e

pub lift_count : (rules : Rules) (ds : FlatTrees) → tree_count (lift_all rules ds) ≡ flat_count ds
lift_count rules no_flat = refl
lift_count rules (flats_and ds d) = ap (λ (n : ℕ). n + 1) (lift_count rules ds)

module _ (g : Grammar) (rules : Rules) where
  pub kind_is : (r : ℕ) (k : Kind) (lines : List (List Sym)) → HasFlat rules r k lines → kind_at rules r ≡ k
  kind_is r k lines h = rw h refl

  pub alts_at : (a b : Next) (alts : List Alt) (lines : List (List Sym)) → AltsBecome g rules a alts lines b → (n : ℕ) (syms : List Sym) → slice_get lines n ≡ Some syms →
      (alt : Alt) × (c : Next) × (d : Next) × (slice_get alts n ≡ Some alt) × TermsBecome g rules c alt.terms syms d
  alts_at a b alts lines (X.no_alt _) n syms e = absurd (cc e)
  alts_at a b alts lines (X.and_alt _ c _ alt more xs ys h k) zero syms e = (alt, a, c, refl, subst (λ zs. TermsBecome g rules a alt.terms zs c) (cc e) h)
  alts_at a b alts lines (X.and_alt _ c _ alt more xs ys h k) (suc n) syms e = alts_at c b more ys k n syms e

  pub terms_at : (a b : Next) (ts : List Term) (xs : List Sym) → TermsBecome g rules a ts xs b → (n : ℕ) (x : Sym) → slice_get xs n ≡ Some x →
      (t : Term) × (c : Next) × (d : Next) × (slice_get ts n ≡ Some t) × TermBecomes g rules c t x d
  terms_at a b ts xs (X.no_term _) n x e = absurd (cc e)
  terms_at a b ts xs (X.and_term _ c _ t us y ys h k) zero x e = (t, a, c, refl, subst (λ z. TermBecomes g rules a t z c) (cc e) h)
  terms_at a b ts xs (X.and_term _ c _ t us y ys h k) (suc n) x e = terms_at c b us ys k n x e

  pub as_many : (a b : Next) (ts : List Term) (xs : List Sym) → TermsBecome g rules a ts xs b → length ts ≡ length xs
  as_many a b ts xs (X.no_term _) = refl
  as_many a b ts xs (X.and_term _ c _ t us y ys h k) = ap suc (as_many c b us ys k)

  pub rules_at : (n : ℕ) (a b : Next) (rs : List Rule) → RulesBecome g rules n a rs b → (k : ℕ) (rule : Rule) → slice_get rs k ≡ Some rule →
      (lines : List (List Sym)) × (c : Next) × (d : Next) × HasFlat rules (n + k) kind.Named lines × AltsBecome g rules c rule.alts lines d
  rules_at n a b rs (X.no_rule _ _) k rule e = absurd (cc e)
  rules_at n a b rs (X.and_rule _ _ c _ r more lines f h t) zero rule e =
      let q : r ≡ rule = cc e in
      (lines, a, c, subst (λ (m : ℕ). HasFlat rules m kind.Named lines) (omega arith) f, subst (λ (x : Rule). AltsBecome g rules a x.alts lines c) q h)
  rules_at n a b rs (X.and_rule _ _ c _ r more lines f h t) (suc k) rule e =
      let m = rules_at (n + 1) c b more t k rule e in
      (m.0, m.1, m.2, subst (λ (x : ℕ). HasFlat rules x kind.Named m.0) (omega arith) m.3, m.4)

  module _ (slots : List SlotInfo) (s : List ℕ) where
    abbrev pub plan : Parts
    plan = record { rules = rules; slots = slots; text = s }

    -- the line that a tree names is one of those that stand for the term
    pub line_of : (r a : ℕ) (k : Kind) (lines : List (List Sym)) (syms : List Sym) → HasFlat rules r k lines → IsLine plan r a syms → slice_get lines a ≡ Some syms
    line_of r a k lines syms h l =
        let e : slice_get (map line lines) a ≡ Some l.1 = cc (h, l.2, l.3) in
        let m = get_map line lines a l.1 e in
        let f : m.0 ≡ syms = cc (m.2, l.4) in
        cc (m.1, f)

    pub record Lifts (d : FlatTree) : Type 0 where
      pub factor : (a b : Next) (f : Factor) (x : Sym) (i j : ℕ) → FactorBecomes g rules a f x b → FlatDerives plan d x i j → Derives g s (lift rules d) (One f) i j
      pub repeats : (a b : Next) (f : Factor) (sep : Option Factor) (x : Sym) (i j : ℕ) → RepeatBecomes g rules a f sep x b → FlatDerives plan d x i j →
          (ds : Repeated) × (lift rules d ≡ list ds) × Repeats g s ds f sep i j
      pub term : (a b : Next) (t : Term) (x : Sym) (i j : ℕ) → TermBecomes g rules a t x b → FlatDerives plan d x i j → Derives g s (lift rules d) t i j

    abbrev AllLift : FlatTrees → Type 0
    AllLift ds = AllOf Lifts ds

    lift_seq : (ds : FlatTrees) → AllLift ds → (a b : Next) (ts : List Term) (xs : List Sym) → TermsBecome g rules a ts xs b → (i j : ℕ) → FlatDerivesFirst plan ds xs i j → DerivesFirst g s (lift_all rules ds) ts i j
    lift_seq no_flat l a b ts xs h i j k = k
    lift_seq (flats_and ds d) l a b ts xs h i j k =
        let m = terms_at a b ts xs h (flat_count ds) k.1 k.3 in
        (k.0, m.0, lift_seq ds l.0 a b ts xs h i k.0 k.2, ap (slice_get ts) (lift_count rules ds) ∙ m.3, l.1.term m.1 m.2 m.0 k.1 k.0 j m.4 k.4)

    lift_line : (ds : FlatTrees) → AllLift ds → (a b : Next) (alts : List Alt) (lines : List (List Sym)) → AltsBecome g rules a alts lines b → (n : ℕ) (xs : List Sym) → slice_get lines n ≡ Some xs →
        (i j : ℕ) → flat_count ds ≡ length xs → FlatDerivesFirst plan ds xs i j →
        (alt : Alt) × (slice_get alts n ≡ Some alt) × DerivesAll g s (lift_all rules ds) alt.terms i j
    lift_line ds l a b alts lines h n xs e i j c k =
        let m = alts_at a b alts lines h n xs e in
        (m.0, m.3, (lift_count rules ds ∙ c ∙ sym (as_many m.1 m.2 m.0.terms xs m.4), lift_seq ds l m.1 m.2 m.0.terms xs m.4 i j k))

    abbrev IsText : Type 0
    IsText = AllByRecursion IsScalar s

    module _ (chars : IsText) (x : Expanded g rules) where
      -- a tree's node, where its symbol is rule r
      abbrev pub Under : FlatTrees → ℕ → ℕ → ℕ → ℕ → Type 0
      Under ds r a i j = (syms : List Sym) × IsLine plan r a syms × (flat_count ds ≡ length syms) × FlatDerivesFirst plan ds syms i j

      pub under : (ds : FlatTrees) (q r a i j : ℕ) (mark : Option Mark) → FlatDerives plan (flat_node q a ds) (sy.Rule r mark) i j → (q ≡ r) × Under ds r a i j
      under ds q r a i j mark h =
          let e : q ≡ r = cc (h.1) in
          (e, (h.2, subst (λ (n : ℕ). IsLine plan n a h.2) e h.3, h.4, h.5))

      -- a called rule
      call_case : (q r a : ℕ) (ds : FlatTrees) → AllLift ds → (m : Option Mark) (name : List ℕ) (i j : ℕ) → IsNamed g r name → FlatDerives plan (flat_node q a ds) (sy.Rule r m) i j →
          Derives g s (lift rules (flat_node q a ds)) (One (Call m name)) i j
      call_case q r a ds l m name i j n h =
          let u = under ds q r a i j m h in
          let w = rules_at 0 _ _ g.rules x.walk r n.0 n.1 in
          let f : HasFlat rules r kind.Named w.0 = subst (λ (z : ℕ). HasFlat rules z kind.Named w.0) (omega arith) w.3 in
          let e = line_of r a kind.Named w.0 u.1.0 f u.1.1 in
          let v = lift_line ds l w.1 w.2 n.0.alts w.0 w.4 a u.1.0 e i j u.1.2 u.1.3 in
          subst (λ (z : ℕ). Derives g s (lifted (kind_at rules z) z a (lift_all rules ds)) (One (Call m name)) i j) (sym u.0)
          (subst (λ k. Derives g s (lifted k r a (lift_all rules ds)) (One (Call m name)) i j) (sym (kind_is r kind.Named w.0 f))
          ((m, name, refl, n), v.0.terms, (n.0, n.1, (v.0, v.1, refl)), v.2.0, v.2.1))

      -- a group
      group_case : (q r a : ℕ) (ds : FlatTrees) → AllLift ds → (alts : List Alt) (lines : List (List Sym)) (c d : Next) (i j : ℕ) → HasFlat rules r kind.Group lines → AltsBecome g rules c alts lines d → FlatDerives plan (flat_node q a ds) (sy.Rule r None) i j →
          Derives g s (lift rules (flat_node q a ds)) (One (Group alts)) i j
      group_case q r a ds l alts lines c d i j f w h =
          let u = under ds q r a i j None h in
          let e = line_of r a kind.Group lines u.1.0 f u.1.1 in
          let v = lift_line ds l c d alts lines w a u.1.0 e i j u.1.2 u.1.3 in
          subst (λ (z : ℕ). Derives g s (lifted (kind_at rules z) z a (lift_all rules ds)) (One (Group alts)) i j) (sym u.0)
          (subst (λ k. Derives g s (lifted k r a (lift_all rules ds)) (One (Group alts)) i j) (sym (kind_is r kind.Group lines f))
          (v.0.terms, (alts, refl, (v.0, v.1, refl)), v.2.0, v.2.1))

      text_case : (p q : ℕ) (a b : Next) (f : Factor) (z : Sym) (i j : ℕ) → FactorBecomes g rules a f z b → FlatDerives plan (flat_text p q) z i j → Derives g s (text p q) (One f) i j
      text_case p q a b f z i j (X.literal _ m cs e) h =
          let k : h.2.2 ≡ terminal.Lit (characters cs) = cc (e, h.2.3, h.2.4) in
          let w : TerminalMatches s (terminal.Lit (characters cs)) i j = subst (λ t. TerminalMatches s t i j) k h.2.5 in
          (h.0, h.1, inl (m, cs, refl, w))
      text_case p q a b f z i j (X.set _ m ex ms e) h =
          let k : h.2.2 ≡ terminal.Set e.0 = cc (e.1, h.2.3, h.2.4) in
          let w : TerminalMatches s (terminal.Set e.0) i j = subst (λ t. TerminalMatches s t i j) k h.2.5 in
          (h.0, h.1, inr (m, ex, ms, w.0, refl, (e.2 w.0 (stands_char s i w.0 chars w.2.2)).0 w.1, w.2))
      text_case p q a b f z i j (X.inserted _ cs e) h = absurd (cc h.2.3)
      text_case p q a b f z i j (X.called _ m name r n) h = absurd (cc h.2.3)
      text_case p q a b f z i j (X.grouped _ _ alts lines k w) h = absurd (cc h.2.3)

      insertion_case : (a b : Next) (f : Factor) (z : Sym) (i j : ℕ) → FactorBecomes g rules a f z b → FlatDerives plan flat_insertion z i j → Derives g s insertion (One f) i j
      insertion_case a b f z i j (X.inserted _ cs e) h = (h.2, (cs, refl))
      insertion_case a b f z i j (X.literal _ m cs e) h = absurd (cc h.1)
      insertion_case a b f z i j (X.set _ m ex ms e) h = absurd (cc h.1)
      insertion_case a b f z i j (X.called _ m name r n) h = absurd (cc h.1)
      insertion_case a b f z i j (X.grouped _ _ alts lines k w) h = absurd (cc h.1)

      node_case : (q a : ℕ) (ds : FlatTrees) → AllLift ds → (c d : Next) (f : Factor) (z : Sym) (i j : ℕ) → FactorBecomes g rules c f z d → FlatDerives plan (flat_node q a ds) z i j → Derives g s (lift rules (flat_node q a ds)) (One f) i j
      node_case q a ds l c d f z i j (X.called _ m name r n) h = call_case q r a ds l m name i j n h
      node_case q a ds l c d f z i j (X.grouped _ _ alts lines k w) h = group_case q c.rule a ds l alts lines _ d i j k w h
      node_case q a ds l c d f z i j (X.literal _ m cs e) h = absurd (cc h.1)
      node_case q a ds l c d f z i j (X.set _ m ex ms e) h = absurd (cc h.1)
      node_case q a ds l c d f z i j (X.inserted _ cs e) h = absurd (cc h.1)

      -- ---- repetitions

      abbrev IsList : Tree → Factor → Option Factor → ℕ → ℕ → Type 0
      IsList d f sep i j = (rs : Repeated) × (d ≡ list rs) × Repeats g s rs f sep i j

      lifted_list : (q r a : ℕ) (ds : FlatTrees) (lines : List (List Sym)) → q ≡ r → HasFlat rules r kind.List lines → lift rules (flat_node q a ds) ≡ list_of (lift_all rules ds)
      lifted_list q r a ds lines e f = ap (λ (n : ℕ). lifted (kind_at rules n) n a (lift_all rules ds)) e ∙ ap (λ k. lifted k r a (lift_all rules ds)) (kind_is r kind.List lines f)

      first_item : (ds : FlatTrees) → AllLift ds → (c d : Next) (f : Factor) (sep : Option Factor) (y : Sym) (i j : ℕ) → FactorBecomes g rules c f y d → flat_count ds ≡ 1 → FlatDerivesFirst plan ds (y ∷ []) i j →
          IsList (list_of (lift_all rules ds)) f sep i j
      first_item ds l c d f sep y i j b n h =
          let v = one_child plan Lifts ds l y i j n h in
          (one (lift rules v.0), ap (λ es. list_of (lift_all rules es)) v.1, v.2.factor c d f y i j b v.3)

      next_item : (ds : FlatTrees) → AllLift ds → (b0 c d e : Next) (r : ℕ) (f : Factor) (y : Sym) (i j : ℕ) → FactorBecomes g rules c f y d → RepeatBecomes g rules b0 f None (sy.Rule r None) e → flat_count ds ≡ 2 →
          FlatDerivesFirst plan ds (sy.Rule r None ∷ y ∷ []) i j → IsList (list_of (lift_all rules ds)) f None i j
      next_item ds l b0 c d e r f y i j b p n h =
          let v = two_children plan Lifts ds l (sy.Rule r None) y i j n h in
          let w = v.4.repeats b0 e f None (sy.Rule r None) i v.2 p v.6 in (
            again w.0 (lift rules v.1),
            ap (λ es. list_of (lift_all rules es)) v.3 ∙ ap (λ t. list (again (parts t) (lift rules v.1))) w.1,
            (refl, v.2, w.2, v.5.factor c d f y v.2 j b v.7),
          )

      next_after : (ds : FlatTrees) → AllLift ds → (b0 c d c' d' e : Next) (r : ℕ) (f p : Factor) (y z : Sym) (i j : ℕ) → FactorBecomes g rules c f y d → FactorBecomes g rules c' p z d' → RepeatBecomes g rules b0 f (Some p) (sy.Rule r None) e → flat_count ds ≡ 3 →
          FlatDerivesFirst plan ds (sy.Rule r None ∷ z ∷ y ∷ []) i j → IsList (list_of (lift_all rules ds)) f (Some p) i j
      next_after ds l b0 c d c' d' e r f p y z i j b bp q n h =
          let v = three_children plan Lifts ds l (sy.Rule r None) z y i j n h in
          let w = v.6.repeats b0 e f (Some p) (sy.Rule r None) i v.3 q v.9 in (
            again_after w.0 (lift rules v.1) (lift rules v.2),
            ap (λ es. list_of (lift_all rules es)) v.5 ∙ ap (λ t. list (again_after (parts t) (lift rules v.1) (lift rules v.2))) w.1,
            (p, refl, v.3, v.4, w.2, v.7.factor c' d' p z v.3 v.4 bp v.10, v.8.factor c d f y v.4 j b v.11),
          )

      -- by the alternative's number
      by_line : (ds : FlatTrees) → AllLift ds → (b0 c d e : Next) (r a : ℕ) (f : Factor) (sep : Option Factor) (y : Sym) (sp : Option Sym) (syms : List Sym) (i j : ℕ) → FactorBecomes g rules c f y d → SeparatorBecomes g rules d sep sp e → RepeatBecomes g rules b0 f sep (sy.Rule r None) e →
          slice_get ((y ∷ []) ∷ next_syms r y sp ∷ []) a ≡ Some syms → flat_count ds ≡ length syms → FlatDerivesFirst plan ds syms i j → IsList (list_of (lift_all rules ds)) f sep i j
      by_line ds l b0 c d e r zero f sep y sp syms i j b o p q n h =
          let k : syms ≡ y ∷ [] = cc q in
          first_item ds l c d f sep y i j b (n ∙ ap length k) (subst (λ zs. FlatDerivesFirst plan ds zs i j) k h)
      by_line ds l b0 c d e r (suc zero) f sep y sp syms i j b (X.no_separator _) p q n h =
          let k : syms ≡ sy.Rule r None ∷ y ∷ [] = cc q in
          next_item ds l b0 c d e r f y i j b p (n ∙ ap length k) (subst (λ zs. FlatDerivesFirst plan ds zs i j) k h)
      by_line ds l b0 c d e r (suc zero) f sep y sp syms i j b (X.separator _ _ pf z o) p q n h =
          let k : syms ≡ sy.Rule r None ∷ z ∷ y ∷ [] = cc q in
          next_after ds l b0 c d d e e r f pf y z i j b o p (n ∙ ap length k) (subst (λ zs. FlatDerivesFirst plan ds zs i j) k h)
      by_line ds l b0 c d e r (suc (suc a)) f sep y sp syms i j b o p q n h = absurd (cc q)

      repeat_case : (q a : ℕ) (ds : FlatTrees) → AllLift ds → (c e : Next) (f : Factor) (sep : Option Factor) (z : Sym) (i j : ℕ) → RepeatBecomes g rules c f sep z e → FlatDerives plan (flat_node q a ds) z i j → IsList (lift rules (flat_node q a ds)) f sep i j
      repeat_case q a ds l c e f sep z i j (X.repeated _ d _ _ _ y sp k b o) h =
          let u = under ds q c.rule a i j None h in
          let n = line_of c.rule a kind.List ((y ∷ []) ∷ next_syms c.rule y sp ∷ []) u.1.0 k u.1.1 in
          let v = by_line ds l c _ d e c.rule a f sep y sp u.1.0 i j b o (X.repeated c d e f sep y sp k b o) n u.1.2 u.1.3 in
          (v.0, lifted_list q c.rule a ds ((y ∷ []) ∷ next_syms c.rule y sp ∷ []) u.0 k ∙ v.1, v.2)

      -- ---- options and stars

      option_line : (ds : FlatTrees) → AllLift ds → (c d : Next) (a : ℕ) (f : Factor) (y : Sym) (syms : List Sym) (i j : ℕ) → FactorBecomes g rules c f y d → slice_get ((y ∷ []) ∷ [] ∷ []) a ≡ Some syms → flat_count ds ≡ length syms → FlatDerivesFirst plan ds syms i j →
          Derives g s (option_of (lift_all rules ds)) (Opt f) i j
      option_line ds l c d zero f y syms i j b q n h =
          let k : syms ≡ y ∷ [] = cc q in
          let v = one_child plan Lifts ds l y i j (n ∙ ap length k) (subst (λ zs. FlatDerivesFirst plan ds zs i j) k h) in
          subst (λ es. Derives g s (option_of (lift_all rules es)) (Opt f) i j) (sym v.1) (f, refl, v.2.factor c d f y i j b v.3)
      option_line no_flat l c d (suc zero) f y syms i j b q n h = (f, refl, h)
      option_line (flats_and ds e) l c d (suc zero) f y syms i j b q n h =
          let k : syms ≡ [] = cc q in
          absurd (omega (arith, n ∙ ap length k))
      option_line ds l c d (suc (suc a)) f y syms i j b q n h = absurd (cc q)

      star_line : (ds : FlatTrees) → AllLift ds → (c d : Next) (a : ℕ) (f : Factor) (sep : Option Factor) (p : Sym) (syms : List Sym) (i j : ℕ) → RepeatBecomes g rules c f sep p d → slice_get ([] ∷ (p ∷ []) ∷ []) a ≡ Some syms → flat_count ds ≡ length syms → FlatDerivesFirst plan ds syms i j →
          Derives g s (last_or (lift_all rules ds) no_item) (Star f sep) i j
      star_line no_flat l c d zero f sep p syms i j b q n h = (f, sep, refl, h)
      star_line (flats_and ds e) l c d zero f sep p syms i j b q n h =
          let k : syms ≡ [] = cc q in
          absurd (omega (arith, n ∙ ap length k))
      star_line ds l c d (suc zero) f sep p syms i j b q n h =
          let k : syms ≡ p ∷ [] = cc q in
          let v = one_child plan Lifts ds l p i j (n ∙ ap length k) (subst (λ zs. FlatDerivesFirst plan ds zs i j) k h) in
          let w = v.2.repeats c d f sep p i j b v.3 in
          subst (λ es. Derives g s (last_or (lift_all rules es) no_item) (Star f sep) i j) (sym v.1)
          (subst (λ t. Derives g s t (Star f sep) i j) (sym w.1) (f, sep, inr refl, w.2))
      star_line ds l c d (suc (suc a)) f sep p syms i j b q n h = absurd (cc q)

      term_case : (q a : ℕ) (ds : FlatTrees) → AllLift ds → (c d : Next) (t : Term) (z : Sym) (i j : ℕ) → TermBecomes g rules c t z d → FlatDerives plan (flat_node q a ds) z i j → Derives g s (lift rules (flat_node q a ds)) t i j
      term_case q a ds l c d t z i j (X.alone _ _ f y b) h = node_case q a ds l c d f z i j b h
      term_case q a ds l c d t z i j (X.plus _ _ f sep p b) h =
          let v = repeat_case q a ds l c d f sep z i j b h in
          subst (λ e. Derives g s e (Plus f sep) i j) (sym v.1) (f, sep, inl refl, v.2)
      term_case q a ds l c d t z i j (X.option _ _ f y k b) h =
          let u = under ds q c.rule a i j None h in
          let n = line_of c.rule a kind.Opt ((y ∷ []) ∷ [] ∷ []) u.1.0 k u.1.1 in
          subst (λ (m : ℕ). Derives g s (lifted (kind_at rules m) m a (lift_all rules ds)) (Opt f) i j) (sym u.0)
          (subst (λ m. Derives g s (lifted m c.rule a (lift_all rules ds)) (Opt f) i j) (sym (kind_is c.rule kind.Opt ((y ∷ []) ∷ [] ∷ []) k))
          (option_line ds l _ d a f y u.1.0 i j b n u.1.2 u.1.3))
      term_case q a ds l c d t z i j (X.star _ _ f sep p k b) h =
          let u = under ds q c.rule a i j None h in
          let n = line_of c.rule a kind.Star ([] ∷ (p ∷ []) ∷ []) u.1.0 k u.1.1 in
          subst (λ (m : ℕ). Derives g s (lifted (kind_at rules m) m a (lift_all rules ds)) (Star f sep) i j) (sym u.0)
          (subst (λ m. Derives g s (lifted m c.rule a (lift_all rules ds)) (Star f sep) i j) (sym (kind_is c.rule kind.Star ([] ∷ (p ∷ []) ∷ []) k))
          (star_line ds l _ d a f sep p u.1.0 i j b n u.1.2 u.1.3))

      -- ---- all trees

      no_repeat : (c e : Next) (f : Factor) (sep : Option Factor) (z : Sym) → RepeatBecomes g rules c f sep z e → (r : ℕ) × (z ≡ sy.Rule r None)
      no_repeat c e f sep z (X.repeated _ d _ _ _ y sp k b o) = (c.rule, refl)

      text_term : (p q : ℕ) (c d : Next) (t : Term) (z : Sym) (i j : ℕ) → TermBecomes g rules c t z d → FlatDerives plan (flat_text p q) z i j → Derives g s (text p q) t i j
      text_term p q c d t z i j (X.alone _ _ f y b) h = text_case p q c d f z i j b h
      text_term p q c d t z i j (X.option _ _ f y k b) h = absurd (cc h.2.3)
      text_term p q c d t z i j (X.plus _ _ f sep y b) h = absurd (cc (h.2.3, (no_repeat c d f sep y b).1))
      text_term p q c d t z i j (X.star _ _ f sep y k b) h = absurd (cc h.2.3)

      insertion_term : (c d : Next) (t : Term) (z : Sym) (i j : ℕ) → TermBecomes g rules c t z d → FlatDerives plan flat_insertion z i j → Derives g s insertion t i j
      insertion_term c d t z i j (X.alone _ _ f y b) h = insertion_case c d f z i j b h
      insertion_term c d t z i j (X.option _ _ f y k b) h = absurd (cc h.1)
      insertion_term c d t z i j (X.plus _ _ f sep y b) h = absurd (cc (h.1, (no_repeat c d f sep y b).1))
      insertion_term c d t z i j (X.star _ _ f sep y k b) h = absurd (cc h.1)

      mutual
        pub lifts : (d : FlatTree) → Lifts d
        lifts (flat_text p q) = record {
          factor = λ a b f z i j. text_case p q a b f z i j;
          repeats = λ a b f sep z i j r h. absurd (cc (h.2.3, (no_repeat a b f sep z r).1));
          term = λ a b t z i j. text_term p q a b t z i j;
        }
        lifts flat_insertion = record {
          factor = λ a b f z i j. insertion_case a b f z i j;
          repeats = λ a b f sep z i j r h. absurd (cc (h.1, (no_repeat a b f sep z r).1));
          term = λ a b t z i j. insertion_term a b t z i j;
        }
        lifts (flat_node q n ds) = record {
          factor = λ a b f z i j. node_case q n ds (all_lift ds) a b f z i j;
          repeats = λ a b f sep z i j. repeat_case q n ds (all_lift ds) a b f sep z i j;
          term = λ a b t z i j. term_case q n ds (all_lift ds) a b t z i j;
        }

        pub all_lift : (ds : FlatTrees) → AllLift ds
        all_lift no_flat = tt
        all_lift (flats_and ds d) = (all_lift ds, lifts d)

      -- what is derived of the first rule is a derivation of the text
      pub lift_derives : (rule : Rule) → slice_get g.rules 0 ≡ Some rule → (d : FlatTree) → FlatDerives plan d (sy.Rule 0 None) 0 (length s) → IsDerivation g s (lift rules d)
      lift_derives rule e (flat_text p q) h = absurd (cc h.2.3)
      lift_derives rule e flat_insertion h = absurd (cc h.1)
      lift_derives rule e (flat_node q a ds) h =
          let u = under ds q 0 a 0 (length s) None h in
          let w = rules_at 0 _ _ g.rules x.walk 0 rule e in
          let f : HasFlat rules 0 kind.Named w.0 = subst (λ (z : ℕ). HasFlat rules z kind.Named w.0) (omega arith) w.3 in
          let n = line_of 0 a kind.Named w.0 u.1.0 f u.1.1 in
          let v = lift_line ds (all_lift ds) w.1 w.2 rule.alts w.0 w.4 a u.1.0 n 0 (length s) u.1.2 u.1.3 in (
            a,
            v.0.terms,
            lift_all rules ds,
            ap (λ (z : ℕ). lifted (kind_at rules z) z a (lift_all rules ds)) u.0 ∙ ap (λ k. lifted k 0 a (lift_all rules ds)) (kind_is 0 kind.Named w.0 f),
            (rule, e, (v.0, v.1, refl)),
            v.2,
          )
