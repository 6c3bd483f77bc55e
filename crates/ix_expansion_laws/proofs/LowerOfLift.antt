-- Lifting a tree over the numbered rules and lowering it again gives it back.
use Rattle.std.proofs.Common.{◌≡◌, refl, ap, sym, subst, ◌∙◌, ℕ, zero, suc, List, [], ◌∷◌, length, Option, Some, None, arith, slice_get}
use Rattle.std.specs.List.{AllByRecursion}
use Rattle.std.specs.Char.{IsScalar}
use Rattle.ix_model.specs.declared.grammar.Grammar.{Grammar}
use Rattle.ix_model.specs.declared.grammar.Rule.{Rule}
use Rattle.ix_model.specs.declared.grammar.Mark.{Mark}
use Rattle.ix_model.specs.declared.grammar.Alt.{Alt}
use Rattle.ix_model.specs.declared.grammar.Term.{Term}
use Rattle.ix_model.specs.declared.grammar.Factor.{Factor}
use Rattle.ix_model.specs.declared.rules.Kind.{Kind}
use Rattle.ix_model.specs.declared.rules.Kind.TheVariants as kind
use Rattle.ix_model.specs.declared.rules.Sym.{Sym}
use Rattle.ix_model.specs.declared.rules.Sym.TheVariants as sy
use Rattle.ix_model.specs.declared.rules.Rules.{Rules}
use Rattle.ix_model.specs.declared.plan.SlotInfo.{SlotInfo}
use Rattle.ix_model.specs.Expansion.Parts.{Parts}
use Rattle.ix_model.specs.Derivations.Trees.{no_item, list, Repeated, one, again, again_after, tree_count}
use Rattle.ix_model.specs.Expansion.FlatTrees.{FlatTree, flat_text, flat_insertion, flat_node, FlatTrees, no_flat, flats_and, flat_count}
use Rattle.ix_model.specs.Expansion.FlatDerives.{FlatDerives, FlatDerivesFirst, IsLine}
use Rattle.ix_model.specs.Expansion.Expanded as X
use Rattle.ix_model.specs.Expansion.Expanded.{Next, next_syms, HasFlat, TermBecomes, RepeatBecomes, SeparatorBecomes, FactorBecomes, AltsBecome, TermsBecome, Expanded}
use Rattle.ix_model.specs.Expansion.Numbered.{sym_at}
use Rattle.ix_model.specs.Expansion.Lift.{lift, lift_all, list_of, last_or, option_of, parts}
use Rattle.ix_model.specs.Expansion.Lower.{lower, lower_all, lower_repeated, starred, rule_in}
use Rattle.ix_expansion_laws.proofs.Children.{AllOf, one_child, two_children, three_children}
use Rattle.ix_expansion_laws.proofs.Lifting.{kind_is, rules_at, alts_at, terms_at, lift_count, line_of, under}
use Rattle.ix_expansion_laws.proofs.Lowering.{sym_is}
use Rattle.ix_expansion_laws.proofs.LiftOfLower.{lifted_as}

module _ (g : Grammar) (rules : Rules) (slots : List SlotInfo) (s : List ℕ) where
  abbrev plan : Parts
  plan = record { rules = rules; slots = slots; text = s }

  -- a repetition under its helper, whose parts lower to it
  abbrev IsBack : FlatTree → Sym → Type 0
  IsBack e x = (rs : Repeated) × (lift rules e ≡ list rs) × (lower_repeated rules rs (rule_in x) ≡ e)

  pub record Back (e : FlatTree) : Type 0 where
    pub factor : (a b : Next) (f : Factor) (x : Sym) (i j : ℕ) → FactorBecomes g rules a f x b → FlatDerives plan e x i j → lower rules (lift rules e) x ≡ e
    pub repeats : (a b : Next) (f : Factor) (sep : Option Factor) (x : Sym) (i j : ℕ) → RepeatBecomes g rules a f sep x b → FlatDerives plan e x i j → IsBack e x
    pub term : (a b : Next) (t : Term) (x : Sym) (i j : ℕ) → TermBecomes g rules a t x b → FlatDerives plan e x i j → lower rules (lift rules e) x ≡ e

  abbrev AllBack : FlatTrees → Type 0
  AllBack ds = AllOf Back ds

  back_seq : (ds : FlatTrees) → AllBack ds → (r n : ℕ) (k : Kind) (lines : List (List Sym)) (syms : List Sym) → HasFlat rules r k lines → slice_get lines n ≡ Some syms →
      (c d : Next) (ts : List Term) → TermsBecome g rules c ts syms d → (i j : ℕ) → FlatDerivesFirst plan ds syms i j → lower_all rules (lift_all rules ds) r n ≡ ds
  back_seq no_flat l r n k lines syms f e c d ts b i j h = refl
  back_seq (flats_and ds x) l r n k lines syms f e c d ts b i j h =
      let m = terms_at g rules c d ts syms b (flat_count ds) h.1 h.3 in
      let p = back_seq ds l.0 r n k lines syms f e c d ts b i h.0 h.2 in
      let y : sym_at rules r n (tree_count (lift_all rules ds)) ≡ h.1 = sym_is g rules r n _ k lines syms h.1 f e (ap (slice_get syms) (lift_count rules ds) ∙ h.3) in
      let q : lower rules (lift rules x) (sym_at rules r n (tree_count (lift_all rules ds))) ≡ x = subst (λ z. lower rules (lift rules x) z ≡ x) (sym y) (l.1.term m.1 m.2 m.0 h.1 h.0 j m.4 h.4) in
      cc (p, q)

  back_line : (ds : FlatTrees) → AllBack ds → (r n : ℕ) (k : Kind) (lines : List (List Sym)) (syms : List Sym) → HasFlat rules r k lines → slice_get lines n ≡ Some syms → (c d : Next) (alts : List Alt) → AltsBecome g rules c alts lines d →
      (i j : ℕ) → FlatDerivesFirst plan ds syms i j → lower_all rules (lift_all rules ds) r n ≡ ds
  back_line ds l r n k lines syms f e c d alts b i j h =
      let m = alts_at g rules c d alts lines b n syms e in
      back_seq ds l r n k lines syms f e m.1 m.2 m.0.terms m.4 i j h

  module _ (chars : AllByRecursion IsScalar s) (x : Expanded g rules) where
    -- a node of a rule with a name, or of a group
    abbrev Opened : FlatTrees → ℕ → ℕ → ℕ → ℕ → Type 0
    Opened ds r a i j = (syms : List Sym) × IsLine plan r a syms × (flat_count ds ≡ length syms) × FlatDerivesFirst plan ds syms i j

    call_back : (q r a : ℕ) (ds : FlatTrees) → AllBack ds → (m : Option Mark) (rule : Rule) (i j : ℕ) → slice_get g.rules r ≡ Some rule → (q ≡ r) × Opened ds r a i j → lower rules (lift rules (flat_node q a ds)) (sy.Rule r m) ≡ flat_node q a ds
    call_back q r a ds l m rule i j at u =
        let w = rules_at g rules 0 _ _ g.rules x.walk r rule at in
        let f : HasFlat rules r kind.Named w.0 = subst (λ (z : ℕ). HasFlat rules z kind.Named w.0) (omega arith) w.3 in
        let e = line_of g rules slots s r a kind.Named w.0 u.1.0 f u.1.1 in
        let p = back_line ds l r a kind.Named w.0 u.1.0 f e w.1 w.2 rule.alts w.4 i j u.1.3 in
        subst (λ (n : ℕ). lower rules (lift rules (flat_node n a ds)) (sy.Rule r m) ≡ flat_node n a ds) (sym u.0)
        (ap (λ t. lower rules t (sy.Rule r m)) (lifted_as g rules s r a kind.Named w.0 ds f) ∙ ap (flat_node r a) p)

    group_back : (q r a : ℕ) (ds : FlatTrees) → AllBack ds → (alts : List Alt) (lines : List (List Sym)) (c d : Next) (i j : ℕ) → HasFlat rules r kind.Group lines → AltsBecome g rules c alts lines d → (q ≡ r) × Opened ds r a i j →
        lower rules (lift rules (flat_node q a ds)) (sy.Rule r None) ≡ flat_node q a ds
    group_back q r a ds l alts lines c d i j f w u =
        let e = line_of g rules slots s r a kind.Group lines u.1.0 f u.1.1 in
        let p = back_line ds l r a kind.Group lines u.1.0 f e c d alts w i j u.1.3 in
        subst (λ (n : ℕ). lower rules (lift rules (flat_node n a ds)) (sy.Rule r None) ≡ flat_node n a ds) (sym u.0)
        (ap (λ t. lower rules t (sy.Rule r None)) (lifted_as g rules s r a kind.Group lines ds f) ∙ ap (flat_node r a) p)

    node_back : (q a : ℕ) (ds : FlatTrees) → AllBack ds → (c d : Next) (f : Factor) (z : Sym) (i j : ℕ) → FactorBecomes g rules c f z d → FlatDerives plan (flat_node q a ds) z i j → lower rules (lift rules (flat_node q a ds)) z ≡ flat_node q a ds
    node_back q a ds l c d f z i j (X.called _ m name r n) h = call_back q r a ds l m n.0 i j n.1 (under g rules slots s chars x ds q r a i j m h)
    node_back q a ds l c d f z i j (X.grouped _ _ alts lines k w) h = group_back q c.rule a ds l alts lines _ d i j k w (under g rules slots s chars x ds q c.rule a i j None h)
    node_back q a ds l c d f z i j (X.literal _ m cs e) h = absurd (cc h.1)
    node_back q a ds l c d f z i j (X.set _ m ex ms e) h = absurd (cc h.1)
    node_back q a ds l c d f z i j (X.inserted _ cs e) h = absurd (cc h.1)

    -- ---- repetitions, by the alternative's number

    repeat_line : (ds : FlatTrees) → AllBack ds → (b0 c d e : Next) (r a : ℕ) (f : Factor) (sep : Option Factor) (y : Sym) (sp : Option Sym) (syms : List Sym) (i j : ℕ) → HasFlat rules r kind.List ((y ∷ []) ∷ next_syms r y sp ∷ []) →
        FactorBecomes g rules c f y d → SeparatorBecomes g rules d sep sp e → RepeatBecomes g rules b0 f sep (sy.Rule r None) e → slice_get ((y ∷ []) ∷ next_syms r y sp ∷ []) a ≡ Some syms → flat_count ds ≡ length syms → FlatDerivesFirst plan ds syms i j →
        (rs : Repeated) × (list_of (lift_all rules ds) ≡ list rs) × (lower_repeated rules rs r ≡ flat_node r a ds)
    repeat_line ds l b0 c d e r zero f sep y sp syms i j k b o p q n h =
        let w : syms ≡ y ∷ [] = cc q in
        let v = one_child plan Back ds l y i j (n ∙ ap length w) (subst (λ zs. FlatDerivesFirst plan ds zs i j) w h) in
        let u : lower rules (lift rules v.0) (sym_at rules r 0 0) ≡ v.0 = subst (λ z. lower rules (lift rules v.0) z ≡ v.0) (sym (sym_is g rules r 0 0 kind.List ((y ∷ []) ∷ next_syms r y sp ∷ []) (y ∷ []) y k refl refl)) (v.2.factor c d f y i j b v.3) in
        (one (lift rules v.0), ap (λ es. list_of (lift_all rules es)) v.1, ap (λ t. flat_node r 0 (flats_and no_flat t)) u ∙ ap (flat_node r 0) (sym v.1))
    repeat_line ds l b0 c d e r (suc zero) f sep y sp syms i j k b (X.no_separator _) p q n h =
        let w : syms ≡ sy.Rule r None ∷ y ∷ [] = cc q in
        let v = two_children plan Back ds l (sy.Rule r None) y i j (n ∙ ap length w) (subst (λ zs. FlatDerivesFirst plan ds zs i j) w h) in
        let t = v.4.repeats b0 e f None (sy.Rule r None) i v.2 p v.6 in
        let u : lower rules (lift rules v.1) (sym_at rules r 1 1) ≡ v.1 = subst (λ z. lower rules (lift rules v.1) z ≡ v.1) (sym (sym_is g rules r 1 1 kind.List ((y ∷ []) ∷ next_syms r y None ∷ []) (sy.Rule r None ∷ y ∷ []) y k refl refl)) (v.5.factor c d f y v.2 j b v.7) in (
          again t.0 (lift rules v.1),
          ap (λ es. list_of (lift_all rules es)) v.3 ∙ ap (λ z. list (again (parts z) (lift rules v.1))) t.1,
          ap (λ z. flat_node r 1 (flats_and (flats_and no_flat z) (lower rules (lift rules v.1) (sym_at rules r 1 1)))) t.2 ∙ ap (λ z. flat_node r 1 (flats_and (flats_and no_flat v.0) z)) u ∙ ap (flat_node r 1) (sym v.3),
        )
    repeat_line ds l b0 c d e r (suc zero) f sep y sp syms i j k b (X.separator _ _ pf z o) p q n h =
        let w : syms ≡ sy.Rule r None ∷ z ∷ y ∷ [] = cc q in
        let v = three_children plan Back ds l (sy.Rule r None) z y i j (n ∙ ap length w) (subst (λ zs. FlatDerivesFirst plan ds zs i j) w h) in
        let t = v.6.repeats b0 e f (Some pf) (sy.Rule r None) i v.3 p v.9 in
        let lines : List (List Sym) = (y ∷ []) ∷ next_syms r y (Some z) ∷ [] in
        let u1 : lower rules (lift rules v.1) (sym_at rules r 1 1) ≡ v.1 = subst (λ m. lower rules (lift rules v.1) m ≡ v.1) (sym (sym_is g rules r 1 1 kind.List lines (sy.Rule r None ∷ z ∷ y ∷ []) z k refl refl)) (v.7.factor d e pf z v.3 v.4 o v.10) in
        let u2 : lower rules (lift rules v.2) (sym_at rules r 1 2) ≡ v.2 = subst (λ m. lower rules (lift rules v.2) m ≡ v.2) (sym (sym_is g rules r 1 2 kind.List lines (sy.Rule r None ∷ z ∷ y ∷ []) y k refl refl)) (v.8.factor c d f y v.4 j b v.11) in (
          again_after t.0 (lift rules v.1) (lift rules v.2),
          ap (λ es. list_of (lift_all rules es)) v.5 ∙ ap (λ m. list (again_after (parts m) (lift rules v.1) (lift rules v.2))) t.1,
          ap (λ m. flat_node r 1 (flats_and (flats_and (flats_and no_flat m) (lower rules (lift rules v.1) (sym_at rules r 1 1))) (lower rules (lift rules v.2) (sym_at rules r 1 2)))) t.2
              ∙ ap (λ m. flat_node r 1 (flats_and (flats_and (flats_and no_flat v.0) m) (lower rules (lift rules v.2) (sym_at rules r 1 2)))) u1
              ∙ ap (λ m. flat_node r 1 (flats_and (flats_and (flats_and no_flat v.0) v.1) m)) u2 ∙ ap (flat_node r 1) (sym v.5),
        )
    repeat_line ds l b0 c d e r (suc (suc a)) f sep y sp syms i j k b o p q n h = absurd (cc q)

    repeat_back : (q a : ℕ) (ds : FlatTrees) → AllBack ds → (c e : Next) (f : Factor) (sep : Option Factor) (z : Sym) (i j : ℕ) → RepeatBecomes g rules c f sep z e → FlatDerives plan (flat_node q a ds) z i j → IsBack (flat_node q a ds) z
    repeat_back q a ds l c e f sep z i j (X.repeated _ d _ _ _ y sp k b o) h =
        let u = under g rules slots s chars x ds q c.rule a i j None h in
        let n = line_of g rules slots s c.rule a kind.List ((y ∷ []) ∷ next_syms c.rule y sp ∷ []) u.1.0 k u.1.1 in
        let v = repeat_line ds l c _ d e c.rule a f sep y sp u.1.0 i j k b o (X.repeated c d e f sep y sp k b o) n u.1.2 u.1.3 in
        (v.0, ap (λ (m : ℕ). lift rules (flat_node m a ds)) u.0 ∙ lifted_as g rules s c.rule a kind.List ((y ∷ []) ∷ next_syms c.rule y sp ∷ []) ds k ∙ v.1, v.2 ∙ ap (λ (m : ℕ). flat_node m a ds) (sym u.0))

    option_line : (ds : FlatTrees) → AllBack ds → (c d : Next) (r a : ℕ) (f : Factor) (y : Sym) (syms : List Sym) (i j : ℕ) → HasFlat rules r kind.Opt ((y ∷ []) ∷ [] ∷ []) → FactorBecomes g rules c f y d → slice_get ((y ∷ []) ∷ [] ∷ []) a ≡ Some syms → flat_count ds ≡ length syms → FlatDerivesFirst plan ds syms i j →
        lower rules (option_of (lift_all rules ds)) (sy.Rule r None) ≡ flat_node r a ds
    option_line ds l c d r zero f y syms i j k b q n h =
        let w : syms ≡ y ∷ [] = cc q in
        let v = one_child plan Back ds l y i j (n ∙ ap length w) (subst (λ zs. FlatDerivesFirst plan ds zs i j) w h) in
        let u : lower rules (lift rules v.0) (sym_at rules r 0 0) ≡ v.0 = subst (λ z. lower rules (lift rules v.0) z ≡ v.0) (sym (sym_is g rules r 0 0 kind.Opt ((y ∷ []) ∷ [] ∷ []) (y ∷ []) y k refl refl)) (v.2.factor c d f y i j b v.3) in
        ap (λ es. lower rules (option_of (lift_all rules es)) (sy.Rule r None)) v.1 ∙ ap (λ t. flat_node r 0 (flats_and no_flat t)) u ∙ ap (flat_node r 0) (sym v.1)
    option_line no_flat l c d r (suc zero) f y syms i j k b q n h = refl
    option_line (flats_and ds e) l c d r (suc zero) f y syms i j k b q n h =
        let w : syms ≡ [] = cc q in
        absurd (omega (arith, n ∙ ap length w))
    option_line ds l c d r (suc (suc a)) f y syms i j k b q n h = absurd (cc q)

    star_line : (ds : FlatTrees) → AllBack ds → (c d : Next) (r a : ℕ) (f : Factor) (sep : Option Factor) (p : Sym) (syms : List Sym) (i j : ℕ) → HasFlat rules r kind.Star ([] ∷ (p ∷ []) ∷ []) → RepeatBecomes g rules c f sep p d → slice_get ([] ∷ (p ∷ []) ∷ []) a ≡ Some syms → flat_count ds ≡ length syms → FlatDerivesFirst plan ds syms i j →
        lower rules (last_or (lift_all rules ds) no_item) (sy.Rule r None) ≡ flat_node r a ds
    star_line no_flat l c d r zero f sep p syms i j k b q n h = refl
    star_line (flats_and ds e) l c d r zero f sep p syms i j k b q n h =
        let w : syms ≡ [] = cc q in
        absurd (omega (arith, n ∙ ap length w))
    star_line ds l c d r (suc zero) f sep p syms i j k b q n h =
        let w : syms ≡ p ∷ [] = cc q in
        let v = one_child plan Back ds l p i j (n ∙ ap length w) (subst (λ zs. FlatDerivesFirst plan ds zs i j) w h) in
        let t = v.2.repeats c d f sep p i j b v.3 in
        let y = sym_is g rules r 1 0 kind.Star ([] ∷ (p ∷ []) ∷ []) (p ∷ []) p k refl refl in
        ap (λ es. lower rules (last_or (lift_all rules es) no_item) (sy.Rule r None)) v.1 ∙ ap (λ z. lower rules z (sy.Rule r None)) t.1
        ∙ ap (λ z. starred rules z r (λ m. lower_repeated rules t.0 m)) (kind_is g rules r kind.Star ([] ∷ (p ∷ []) ∷ []) k)
        ∙ ap (λ z. flat_node r 1 (flats_and no_flat (lower_repeated rules t.0 (rule_in z)))) y ∙ ap (λ z. flat_node r 1 (flats_and no_flat z)) t.2 ∙ ap (flat_node r 1) (sym v.1)
    star_line ds l c d r (suc (suc a)) f sep p syms i j k b q n h = absurd (cc q)

    plus_back : (e : FlatTree) (c d : Next) (f : Factor) (sep : Option Factor) (z : Sym) → RepeatBecomes g rules c f sep z d → IsBack e z → lower rules (lift rules e) z ≡ e
    plus_back e c d f sep z (X.repeated _ m _ _ _ y sp k b o) v =
        ap (λ t. lower rules t (sy.Rule c.rule None)) v.1 ∙ ap (λ t. starred rules t c.rule (λ n. lower_repeated rules v.0 n)) (kind_is g rules c.rule kind.List ((y ∷ []) ∷ next_syms c.rule y sp ∷ []) k) ∙ v.2

    term_back : (q a : ℕ) (ds : FlatTrees) → AllBack ds → (c d : Next) (t : Term) (z : Sym) (i j : ℕ) → TermBecomes g rules c t z d → FlatDerives plan (flat_node q a ds) z i j → lower rules (lift rules (flat_node q a ds)) z ≡ flat_node q a ds
    term_back q a ds l c d t z i j (X.alone _ _ f y b) h = node_back q a ds l c d f z i j b h
    term_back q a ds l c d t z i j (X.plus _ _ f sep p b) h = plus_back (flat_node q a ds) c d f sep z b (repeat_back q a ds l c d f sep z i j b h)
    term_back q a ds l c d t z i j (X.option _ _ f y k b) h =
        let u = under g rules slots s chars x ds q c.rule a i j None h in
        let n = line_of g rules slots s c.rule a kind.Opt ((y ∷ []) ∷ [] ∷ []) u.1.0 k u.1.1 in
        subst (λ (m : ℕ). lower rules (lift rules (flat_node m a ds)) (sy.Rule c.rule None) ≡ flat_node m a ds) (sym u.0)
        (ap (λ m. lower rules m (sy.Rule c.rule None)) (lifted_as g rules s c.rule a kind.Opt ((y ∷ []) ∷ [] ∷ []) ds k) ∙ option_line ds l _ d c.rule a f y u.1.0 i j k b n u.1.2 u.1.3)
    term_back q a ds l c d t z i j (X.star _ _ f sep p k b) h =
        let u = under g rules slots s chars x ds q c.rule a i j None h in
        let n = line_of g rules slots s c.rule a kind.Star ([] ∷ (p ∷ []) ∷ []) u.1.0 k u.1.1 in
        subst (λ (m : ℕ). lower rules (lift rules (flat_node m a ds)) (sy.Rule c.rule None) ≡ flat_node m a ds) (sym u.0)
        (ap (λ m. lower rules m (sy.Rule c.rule None)) (lifted_as g rules s c.rule a kind.Star ([] ∷ (p ∷ []) ∷ []) ds k) ∙ star_line ds l _ d c.rule a f sep p u.1.0 i j k b n u.1.2 u.1.3)

    is_rule : (c e : Next) (f : Factor) (sep : Option Factor) (z : Sym) → RepeatBecomes g rules c f sep z e → z ≡ sy.Rule c.rule None
    is_rule c e f sep z (X.repeated _ d _ _ _ y sp k b o) = refl

    mutual
      pub backs : (e : FlatTree) → Back e
      backs (flat_text p q) = record {
        factor = λ a b f z i j k h. refl;
        repeats = λ a b f sep z i j r h. absurd (cc (h.2.3, is_rule a b f sep z r));
        term = λ a b t z i j k h. refl;
      }
      backs flat_insertion = record {
        factor = λ a b f z i j k h. refl;
        repeats = λ a b f sep z i j r h. absurd (cc (h.1, is_rule a b f sep z r));
        term = λ a b t z i j k h. refl;
      }
      backs (flat_node q n ds) = record {
        factor = λ a b f z i j. node_back q n ds (all_back ds) a b f z i j;
        repeats = λ a b f sep z i j. repeat_back q n ds (all_back ds) a b f sep z i j;
        term = λ a b t z i j. term_back q n ds (all_back ds) a b t z i j;
      }

      pub all_back : (ds : FlatTrees) → AllBack ds
      all_back no_flat = tt
      all_back (flats_and ds d) = (all_back ds, backs d)

    -- a tree of the first rule over the text
    pub lower_lift : (rule : Rule) → slice_get g.rules 0 ≡ Some rule → (e : FlatTree) → FlatDerives plan e (sy.Rule 0 None) 0 (length s) → lower rules (lift rules e) (sy.Rule 0 None) ≡ e
    lower_lift rule at (flat_text p q) h = refl
    lower_lift rule at flat_insertion h = refl
    lower_lift rule at (flat_node q a ds) h = call_back q 0 a ds (all_back ds) None rule 0 (length s) at (under g rules slots s chars x ds q 0 a 0 (length s) None h)
