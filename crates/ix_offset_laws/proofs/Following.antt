-- What follows behind the symbols of an alternative that is entered: each symbol is entered where the one before it ends.
use Rattle.std.proofs.Common.{◌≡◌, refl, subst, ◌+◌, ℕ, zero, suc, List, [], ◌∷◌, Option, Some, None, arith, slice_get}
use mathlib.Core.Logic.{inl, inr}
use Rattle.std.specs.List.{AllByRecursion}
use Rattle.std.specs.Char.{IsScalar}
use Rattle.ix_model.specs.declared.grammar.Grammar.{Grammar}
use Rattle.ix_model.specs.declared.grammar.Rule.{Rule}
use Rattle.ix_model.specs.declared.grammar.Mark.{Mark}
use Rattle.ix_model.specs.declared.grammar.Alt.{Alt}
use Rattle.ix_model.specs.declared.grammar.Term.{Term, One, Opt, Star, Plus}
use Rattle.ix_model.specs.declared.grammar.Factor.{Factor, Call, Group}
use Rattle.ix_model.specs.declared.rules.Kind.TheVariants as kind
use Rattle.ix_model.specs.declared.rules.Sym.{Sym}
use Rattle.ix_model.specs.declared.rules.Sym.TheVariants as sy
use Rattle.ix_model.specs.Expansion.Parts.{Parts}
use Rattle.ix_model.specs.Grammars.Written.{IsOfRule}
use Rattle.ix_model.specs.Derivations.Entered.{IsRepetition, IsDerived, AlternativeEntered, of_call, of_group, PlaceEntered, first_term, next_term, Entered, at_place, of_option, as_item, as_separator, ItemEntered, first_item, next_item, item_behind, SeparatorEntered, separator_behind}
use Rattle.ix_model.specs.Expansion.FlatTrees.{FlatTree}
use Rattle.ix_model.specs.Expansion.FlatDerives.{FlatDerives, IsLine}
use Rattle.ix_model.specs.Expansion.Expanded as X
use Rattle.ix_model.specs.Expansion.Expanded.{Next, next_syms, HasFlat, TermBecomes, RepeatBecomes, SeparatorBecomes, FactorBecomes, AltsBecome, TermsBecome, Expanded}
use Rattle.ix_model.specs.Expansion.Lift.{lift}
use Rattle.ix_expansion_laws.proofs.Lifting.{alts_at, rules_at, line_of, lifts}
use Rattle.ix_offset_laws.proofs.LastItems.{last_item}

module _ (g : Grammar) (plan : Parts) where
  -- the symbol stands for a term that is entered at p, or for the list of a repetition whose item is entered at p
  pub data SymbolEntered : Sym → ℕ → Type 0 where
    of_term : (a b : Next) (t : Term) (y : Sym) (p : ℕ) → TermBecomes g plan.rules a t y b → Entered g plan.text t p → SymbolEntered y p
    of_list : (a b : Next) (t : Term) (f : Factor) (sep : Option Factor) (y : Sym) (p : ℕ) → RepeatBecomes g plan.rules a f sep y b → IsRepetition t f sep → ItemEntered g plan.text t p → SymbolEntered y p

  -- some tree derives the span from the symbol
  abbrev pub IsSpan : Sym → ℕ → ℕ → Type 0
  IsSpan y p e = (d : FlatTree) × FlatDerives plan d y p e

  -- the first of the symbols is entered at p, and where it ends the others follow
  abbrev pub Follow : List Sym → ℕ → Type 0
  Follow [] p = Unit {0}
  Follow (y ∷ ys) p = SymbolEntered y p × ((e : ℕ) → IsSpan y p e → Follow ys e)

  module _ (chars : AllByRecursion IsScalar plan.text) (x : Expanded g plan.rules) where
    -- a tree of the symbol is lifted to a tree of its term
    derived_of : (a b : Next) (t : Term) (y : Sym) (p e : ℕ) → TermBecomes g plan.rules a t y b → IsSpan y p e → IsDerived g plan.text t p e
    derived_of a b t y p e h d = (lift plan.rules d.0, (lifts g plan.rules plan.slots plan.text chars x d.0).term a b t y p e h d.1)

    -- ---- alternatives

    -- the terms of an alternative follow from one that is entered on
    terms_follow : (terms : List Term) (n : ℕ) (a b : Next) (ts : List Term) (ys : List Sym) → TermsBecome g plan.rules a ts ys b → ((m : ℕ) (t : Term) → slice_get ts m ≡ Some t → slice_get terms (n + m) ≡ Some t) →
        (p : ℕ) → PlaceEntered g plan.text terms n p → Follow ys p
    terms_follow terms n a b ts ys (X.no_term _) same p h = tt
    terms_follow terms n a b ts ys (X.and_term _ c _ t us y zs h k) same p e =
        let o : n + 0 ≡ n = omega arith in
        let here : slice_get terms n ≡ Some t = subst (λ (m : ℕ). slice_get terms m ≡ Some t) o (same 0 t refl) in (
          of_term a c t y p h (at_place terms n p t e here),
          λ q d. terms_follow terms (suc n) c b us zs k further q (next_term terms n p q t e here (derived_of a c t y p q h d)),
        )
      where
        further : (m : ℕ) (u : Term) → slice_get us m ≡ Some u → slice_get terms (suc n + m) ≡ Some u
        further m u i =
            let w : n + suc m ≡ suc n + m = omega arith in
            subst (λ (z : ℕ). slice_get terms z ≡ Some u) w (same (suc m) u i)

    -- an alternative follows where its terms are entered
    pub line_follows : (a b : Next) (alts : List Alt) (lines : List (List Sym)) → AltsBecome g plan.rules a alts lines b → (n : ℕ) (syms : List Sym) → slice_get lines n ≡ Some syms →
        (p : ℕ) → ((alt : Alt) → slice_get alts n ≡ Some alt → AlternativeEntered g plan.text alt.terms p) → Follow syms p
    line_follows a b alts lines h n syms e p enter =
        let m = alts_at g plan.rules a b alts lines h n syms e in
        terms_follow m.0.terms 0 m.1 m.2 m.0.terms syms m.4 (λ k t i. let o : k ≡ 0 + k = omega arith in subst (λ (z : ℕ). slice_get m.0.terms z ≡ Some t) o i) p (first_term m.0.terms p (enter m.0 m.3))

    -- ---- a rule's alternatives, by what its symbol stands for

    -- an alternative of a written rule
    pub named_follows : (r : ℕ) (rule : Rule) → slice_get g.rules r ≡ Some rule → (a : ℕ) (syms : List Sym) → IsLine plan r a syms → (p : ℕ) → ((terms : List Term) → IsOfRule g r a terms → AlternativeEntered g plan.text terms p) → Follow syms p
    named_follows r rule e a syms line p enter =
        let w = rules_at g plan.rules 0 _ _ g.rules x.walk r rule e in
        let f : HasFlat plan.rules r kind.Named w.0 = subst (λ (z : ℕ). HasFlat plan.rules z kind.Named w.0) (omega arith) w.3 in
        let n = line_of g plan.rules plan.slots plan.text r a kind.Named w.0 syms f line in
        line_follows w.1 w.2 rule.alts w.0 w.4 a syms n p (λ alt i. enter alt.terms (rule, e, (alt, i, refl)))

    -- an alternative of the rule that a call or group became
    factor_follows : (c d : Next) (f : Factor) (z : Sym) → FactorBecomes g plan.rules c f z d → (r : ℕ) (m : Option Mark) → z ≡ sy.Rule r m → (p : ℕ) → Entered g plan.text (One f) p → (a : ℕ) (syms : List Sym) → IsLine plan r a syms → Follow syms p
    factor_follows c d f z (X.called _ mk name q n) r m e p h a syms line =
        let k : r ≡ q = cc e in
        let here : IsLine plan q a syms = subst (λ (v : ℕ). IsLine plan v a syms) k line in
        named_follows q n.0 n.1 a syms here p (λ terms o. of_call (One (Call mk name)) p q a terms h (mk, name, refl, n) o)
    factor_follows c d f z (X.grouped _ _ alts lines k w) r m e p h a syms line =
        let o : r ≡ c.rule = cc e in
        let here : IsLine plan c.rule a syms = subst (λ (v : ℕ). IsLine plan v a syms) o line in
        let n = line_of g plan.rules plan.slots plan.text c.rule a kind.Group lines syms k here in
        line_follows _ d alts lines w a syms n p (λ alt i. of_group (One (Group alts)) p a alt.terms h (alts, refl, (alt, i, refl)))
    factor_follows c d f z (X.literal _ mk cs k) r m e p h a syms line = absurd (cc e)
    factor_follows c d f z (X.set _ mk ex ms k) r m e p h a syms line = absurd (cc e)
    factor_follows c d f z (X.inserted _ cs k) r m e p h a syms line = absurd (cc e)

    -- the list's alternatives: an item; the list, a separator where there is one, and an item
    list_line : (c b d : Next) (f : Factor) (sep : Option Factor) (y : Sym) (sp : Option Sym) → HasFlat plan.rules c.rule kind.List ((y ∷ []) ∷ next_syms c.rule y sp ∷ []) → FactorBecomes g plan.rules (record c { rule = c.rule + 1 }) f y b → SeparatorBecomes g plan.rules b sep sp d →
        RepeatBecomes g plan.rules c f sep (sy.Rule c.rule None) d → (t : Term) → IsRepetition t f sep → (p : ℕ) → ItemEntered g plan.text t p → (a : ℕ) (syms : List Sym) → slice_get ((y ∷ []) ∷ next_syms c.rule y sp ∷ []) a ≡ Some syms → Follow syms p
    list_line c b d f sep y sp k w o whole t rep p h zero syms e =
        let q : y ∷ [] ≡ syms = cc e in
        subst (λ zs. Follow zs p) q (of_term _ b (One f) y p (X.alone _ b f y w) (as_item t f sep p h rep), λ i v. tt)
    list_line c b d f sep y sp k w (X.no_separator _) whole t rep p h (suc zero) syms e =
        let q : sy.Rule c.rule None ∷ y ∷ [] ≡ syms = cc e in
        subst (λ zs. Follow zs p) q (of_list c d t f None (sy.Rule c.rule None) p whole rep h, λ i v. (of_term _ b (One f) y i (X.alone _ b f y w) (as_item t f None i (then i v) rep), λ j u. tt))
      where
        then : (i : ℕ) → IsSpan (sy.Rule c.rule None) p i → ItemEntered g plan.text t i
        then i v =
            let rs = (lifts g plan.rules plan.slots plan.text chars x v.0).repeats c d f None (sy.Rule c.rule None) p i whole v.1 in
            let l = last_item g plan.text rs.0 t f None p i rep h rs.2 in
            next_item t f l.0 i l.1 rep l.2
    list_line c b d f sep y sp k w (X.separator _ _ pf z o) whole t rep p h (suc zero) syms e =
        let q : sy.Rule c.rule None ∷ z ∷ y ∷ [] ≡ syms = cc e in
        subst (λ zs. Follow zs p) q (
          of_list c d t f (Some pf) (sy.Rule c.rule None) p whole rep h,
          λ i v. (
            of_term b d (One pf) z i (X.alone b d pf z o) (as_separator t f pf i (then i v) rep),
            λ j u. (of_term _ b (One f) y j (X.alone _ b f y w) (as_item t f (Some pf) j (item_behind t f pf i j (then i v) rep (derived_of b d (One pf) z i j (X.alone b d pf z o) u)) rep), λ n m. tt),
          ),
        )
      where
        then : (i : ℕ) → IsSpan (sy.Rule c.rule None) p i → SeparatorEntered g plan.text t i
        then i v =
            let rs = (lifts g plan.rules plan.slots plan.text chars x v.0).repeats c d f (Some pf) (sy.Rule c.rule None) p i whole v.1 in
            let l = last_item g plan.text rs.0 t f (Some pf) p i rep h rs.2 in
            separator_behind t f pf l.0 i l.1 rep l.2
    list_line c b d f sep y sp k w o whole t rep p h (suc (suc a)) syms e = absurd (cc e)

    -- an alternative of the list that a repetition's items became
    list_follows : (c d : Next) (f : Factor) (sep : Option Factor) (z : Sym) → RepeatBecomes g plan.rules c f sep z d → (r : ℕ) (m : Option Mark) → z ≡ sy.Rule r m → (t : Term) → IsRepetition t f sep → (p : ℕ) → ItemEntered g plan.text t p → (a : ℕ) (syms : List Sym) → IsLine plan r a syms → Follow syms p
    list_follows c d f sep z (X.repeated _ b _ _ _ y sp k w o) r m e t rep p h a syms line =
        let q : r ≡ c.rule = cc e in
        let here : IsLine plan c.rule a syms = subst (λ (v : ℕ). IsLine plan v a syms) q line in
        let n = line_of g plan.rules plan.slots plan.text c.rule a kind.List ((y ∷ []) ∷ next_syms c.rule y sp ∷ []) syms k here in
        list_line c b d f sep y sp k w o (X.repeated c b d f sep y sp k w o) t rep p h a syms n

    -- what an option holds; nothing
    option_line : (c d : Next) (f : Factor) (y : Sym) → FactorBecomes g plan.rules c f y d → (p : ℕ) → Entered g plan.text (Opt f) p → (a : ℕ) (syms : List Sym) → slice_get ((y ∷ []) ∷ [] ∷ []) a ≡ Some syms → Follow syms p
    option_line c d f y w p h zero syms e =
        let q : y ∷ [] ≡ syms = cc e in
        subst (λ zs. Follow zs p) q (of_term c d (One f) y p (X.alone c d f y w) (of_option (Opt f) f p h refl), λ i v. tt)
    option_line c d f y w p h (suc zero) syms e =
        let q : [] ≡ syms = cc e in
        subst (λ zs. Follow zs p) q tt
    option_line c d f y w p h (suc (suc a)) syms e = absurd (cc e)

    -- nothing; the list
    star_line : (c d : Next) (f : Factor) (sep : Option Factor) (y : Sym) → RepeatBecomes g plan.rules c f sep y d → (p : ℕ) → Entered g plan.text (Star f sep) p → (a : ℕ) (syms : List Sym) → slice_get ([] ∷ (y ∷ []) ∷ []) a ≡ Some syms → Follow syms p
    star_line c d f sep y w p h zero syms e =
        let q : [] ≡ syms = cc e in
        subst (λ zs. Follow zs p) q tt
    star_line c d f sep y w p h (suc zero) syms e =
        let q : y ∷ [] ≡ syms = cc e in
        subst (λ zs. Follow zs p) q (of_list c d (Star f sep) f sep y p w (inr refl) (first_item (Star f sep) f sep p h (inr refl)), λ i v. tt)
    star_line c d f sep y w p h (suc (suc a)) syms e = absurd (cc e)

    -- an alternative of the rule that a term became
    term_follows : (c d : Next) (t : Term) (z : Sym) → TermBecomes g plan.rules c t z d → (r : ℕ) (m : Option Mark) → z ≡ sy.Rule r m → (p : ℕ) → Entered g plan.text t p → (a : ℕ) (syms : List Sym) → IsLine plan r a syms → Follow syms p
    term_follows c d t z (X.alone _ _ f y b) r m e p h a syms line = factor_follows c d f z b r m e p h a syms line
    term_follows c d t z (X.option _ _ f y k b) r m e p h a syms line =
        let q : r ≡ c.rule = cc e in
        let here : IsLine plan c.rule a syms = subst (λ (v : ℕ). IsLine plan v a syms) q line in
        option_line _ d f y b p h a syms (line_of g plan.rules plan.slots plan.text c.rule a kind.Opt ((y ∷ []) ∷ [] ∷ []) syms k here)
    term_follows c d t z (X.plus _ _ f sep y b) r m e p h a syms line = list_follows c d f sep z b r m e (Plus f sep) (inl refl) p (first_item (Plus f sep) f sep p h (inl refl)) a syms line
    term_follows c d t z (X.star _ _ f sep y k b) r m e p h a syms line =
        let q : r ≡ c.rule = cc e in
        let here : IsLine plan c.rule a syms = subst (λ (v : ℕ). IsLine plan v a syms) q line in
        star_line _ d f sep y b p h a syms (line_of g plan.rules plan.slots plan.text c.rule a kind.Star ([] ∷ (y ∷ []) ∷ []) syms k here)

    -- an alternative of the rule that is entered
    pub symbol_follows : (z : Sym) (p : ℕ) → SymbolEntered z p → (r : ℕ) (m : Option Mark) → z ≡ sy.Rule r m → (a : ℕ) (syms : List Sym) → IsLine plan r a syms → Follow syms p
    symbol_follows z p (of_term c d t _ _ w h) r m e a syms line = term_follows c d t z w r m e p h a syms line
    symbol_follows z p (of_list c d t f sep _ _ w rep h) r m e a syms line = list_follows c d f sep z w r m e t rep p h a syms line
