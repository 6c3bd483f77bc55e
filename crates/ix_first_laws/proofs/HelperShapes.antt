-- What each helper rule looks like, and that its symbols are rules of the grammar or later helpers: by the walk of the expansion.
use Rattle.std.proofs.Common.{◌≡◌, refl, sym, subst, ◌⊎◌, ◌+◌, ◌≤◌, ◌<◌, ℕ, List, [], ◌∷◌, length, Option, Some, None, arith}
use Rattle.std.specs.List.{AllByRecursion}
use Rattle.std.proofs.lemmas.Option.{slice_get_within}
use mathlib.Core.Logic.{inl, inr}
use Rattle.ix_model.specs.declared.grammar.Grammar.{Grammar}
use Rattle.ix_model.specs.declared.grammar.Rule.{Rule}
use Rattle.ix_model.specs.declared.grammar.Alt.{Alt}
use Rattle.ix_model.specs.declared.grammar.Term.{Term}
use Rattle.ix_model.specs.declared.grammar.Factor.{Factor}
use Rattle.ix_model.specs.declared.rules.Kind.TheVariants as kind
use Rattle.ix_model.specs.declared.rules.Sym.{Sym}
use Rattle.ix_model.specs.declared.rules.Sym.TheVariants as sy
use Rattle.ix_model.specs.declared.rules.Rules.{Rules}
use Rattle.ix_model.specs.Expansion.Numbered.{kind_at}
use Rattle.ix_model.specs.Expansion.Expanded as X
use Rattle.ix_model.specs.Expansion.Expanded.{Next, next_syms, HasFlat, TermBecomes, RepeatBecomes, SeparatorBecomes, FactorBecomes, AltsBecome, TermsBecome, RulesBecome, Expanded}
use Rattle.ix_expansion_laws.proofs.Lifting.{kind_is}

module _ (g : Grammar) (rules : Rules) where
  -- the symbol is no rule, or it is a rule of the grammar or a helper from number n on
  abbrev pub From : ℕ → Sym → Type 0
  From n (sy.Rule q m) = (q < length g.rules) ⊎ (n ≤ q)
  From n _ = Unit {0}

  abbrev pub LinesFrom : ℕ → List (List Sym) → Type 0
  LinesFrom n lines = AllByRecursion (AllByRecursion (From n)) lines

  -- the separator's symbol, where there is one
  abbrev pub SeparatorFrom : ℕ → Option Sym → Type 0
  SeparatorFrom n None = Unit {0}
  SeparatorFrom n (Some x) = From n x

  -- rule r has the alternatives of a group, of an option, of a star over a later list, or of a list
  pub data HelperShape : ℕ → Type 0 where
    of_group : (r : ℕ) (lines : List (List Sym)) → HasFlat rules r kind.Group lines → LinesFrom (r + 1) lines → HelperShape r
    of_option : (r : ℕ) (x : Sym) → HasFlat rules r kind.Opt ((x ∷ []) ∷ [] ∷ []) → From (r + 1) x → HelperShape r
    of_star : (r p : ℕ) → HasFlat rules r kind.Star ([] ∷ (sy.Rule p None ∷ []) ∷ []) → r < p → kind_at rules p ≡ kind.List → HelperShape r
    of_list : (r : ℕ) (x : Sym) (s : Option Sym) → HasFlat rules r kind.List ((x ∷ []) ∷ next_syms r x s ∷ []) → From (r + 1) x → SeparatorFrom (r + 1) s → HelperShape r

  -- from the numbers a to the numbers b each rule is such a helper
  pub record Shaped (a b : Next) : Type 0 where
    pub rises : a.rule ≤ b.rule
    pub shapes : (r : ℕ) → a.rule ≤ r → r < b.rule → HelperShape r

  none_between : (a b : Next) → a.rule ≡ b.rule → Shaped a b
  none_between a b e = record { rises = omega (arith, e); shapes = λ r h k. absurd (omega (arith, e, h, k)) }

  both : (a b c : Next) → Shaped a b → Shaped b c → Shaped a c
  both a b c p q = record { rises = omega (arith, p.rises, q.rises); shapes = λ r h k. split r h k (grind arith) }
    where
      split : (r : ℕ) → a.rule ≤ r → r < c.rule → (r < b.rule) ⊎ (b.rule ≤ r) → HelperShape r
      split r h k (inl o) = p.shapes r h o
      split r h k (inr o) = q.shapes r o k

  one_more : (a b : Next) → HelperShape a.rule → Shaped (record a { rule = a.rule + 1 }) b → Shaped a b
  one_more a b h p = record { rises = omega (arith, p.rises); shapes = λ r l k. split r l k (grind arith) }
    where
      split : (r : ℕ) → a.rule ≤ r → r < b.rule → (a.rule ≡ r) ⊎ (a.rule + 1 ≤ r) → HelperShape r
      split r l k (inl e) = subst HelperShape e h
      split r l k (inr o) = p.shapes r o k

  -- what a part of the grammar becomes has such helpers, and P holds of what comes of it
  pub record Made (a b : Next) (P : Type 0) : Type 0 where
    pub shaped : Shaped a b
    pub holds : P

  -- the symbol is the list with this number
  abbrev IsListAt : ℕ → Sym → Type 0
  IsListAt r x = (x ≡ sy.Rule r None) × (kind_at rules r ≡ kind.List)

  -- n is at most the next number
  mutual
    term_made : (n : ℕ) (a b : Next) (t : Term) (x : Sym) → n ≤ a.rule → TermBecomes g rules a t x b → Made a b (From n x)
    term_made n a b t x l (X.alone _ _ f y h) = factor_made n a b f x l h
    term_made n a b t x l (X.option _ _ f y e h) =
        let k = factor_made (a.rule + 1) (record a { rule = a.rule + 1 }) b f y (omega arith) h in
        record { shaped = one_more a b (of_option a.rule y e k.holds) k.shaped; holds = inr l }
    term_made n a b t x l (X.plus _ _ f sep p h) =
        let k = repeat_made a b f sep x h in
        record { shaped = k.shaped; holds = subst (From n) (sym k.holds.0) (inr l) }
    term_made n a b t x l (X.star _ _ f sep p e h) =
        let k = repeat_made (record a { rule = a.rule + 1 }) b f sep p h in
        let e' = subst (λ z. HasFlat rules a.rule kind.Star ([] ∷ (z ∷ []) ∷ [])) k.holds.0 e in
        record { shaped = one_more a b (of_star a.rule (a.rule + 1) e' (omega arith) k.holds.1) k.shaped; holds = inr l }

    repeat_made : (a b : Next) (f : Factor) (sep : Option Factor) (x : Sym) → RepeatBecomes g rules a f sep x b → Made a b (IsListAt a.rule x)
    repeat_made a b f sep x (X.repeated _ c _ _ _ y s e h o) =
        let k = factor_made (a.rule + 1) (record a { rule = a.rule + 1 }) c f y (omega arith) h in
        let m = separator_made (a.rule + 1) c b sep s (omega (arith, k.shaped.rises)) o in
        record {
          shaped = one_more a b (of_list a.rule y s e k.holds m.holds) (both _ c b k.shaped m.shaped);
          holds = (refl, kind_is g rules a.rule kind.List ((y ∷ []) ∷ next_syms a.rule y s ∷ []) e);
        }

    separator_made : (n : ℕ) (a b : Next) (sep : Option Factor) (s : Option Sym) → n ≤ a.rule → SeparatorBecomes g rules a sep s b → Made a b (SeparatorFrom n s)
    separator_made n a b sep s l (X.no_separator _) = record { shaped = none_between a a refl; holds = tt }
    separator_made n a b sep s l (X.separator _ _ f x h) = factor_made n a b f x l h

    factor_made : (n : ℕ) (a b : Next) (f : Factor) (x : Sym) → n ≤ a.rule → FactorBecomes g rules a f x b → Made a b (From n x)
    factor_made n a b f x l (X.literal _ m cs e) = record { shaped = none_between a _ refl; holds = tt }
    factor_made n a b f x l (X.set _ m exclude ms e) = record { shaped = none_between a _ refl; holds = tt }
    factor_made n a b f x l (X.inserted _ cs e) = record { shaped = none_between a _ refl; holds = tt }
    factor_made n a b f x l (X.called _ m name r o) = record { shaped = none_between a a refl; holds = inl (slice_get_within g.rules r o.0 o.1) }
    factor_made n a b f x l (X.grouped _ _ alts lines e h) =
        let k = alts_made (a.rule + 1) (record a { rule = a.rule + 1 }) b alts lines (omega arith) h in
        record { shaped = one_more a b (of_group a.rule lines e k.holds) k.shaped; holds = inr l }

    alts_made : (n : ℕ) (a b : Next) (alts : List Alt) (lines : List (List Sym)) → n ≤ a.rule → AltsBecome g rules a alts lines b → Made a b (LinesFrom n lines)
    alts_made n a b alts lines l (X.no_alt _) = record { shaped = none_between a a refl; holds = tt }
    alts_made n a b alts lines l (X.and_alt _ c _ alt more syms rest h k) =
        let p = terms_made n a c alt.terms syms l h in
        let q = alts_made n c b more rest (omega (arith, l, p.shaped.rises)) k in
        record { shaped = both a c b p.shaped q.shaped; holds = (p.holds, q.holds) }

    terms_made : (n : ℕ) (a b : Next) (ts : List Term) (xs : List Sym) → n ≤ a.rule → TermsBecome g rules a ts xs b → Made a b (AllByRecursion (From n) xs)
    terms_made n a b ts xs l (X.no_term _) = record { shaped = none_between a a refl; holds = tt }
    terms_made n a b ts xs l (X.and_term _ c _ t more x rest h k) =
        let p = term_made n a c t x l h in
        let q = terms_made n c b more rest (omega (arith, l, p.shaped.rises)) k in
        record { shaped = both a c b p.shaped q.shaped; holds = (p.holds, q.holds) }

  rules_shaped : (n : ℕ) (a b : Next) (rs : List Rule) → RulesBecome g rules n a rs b → Shaped a b
  rules_shaped n a b rs (X.no_rule _ _) = none_between a a refl
  rules_shaped n a b rs (X.and_rule _ _ c _ rule more lines e h k) = both a c b (alts_made 0 a c rule.alts lines (omega arith) h).shaped (rules_shaped (n + 1) c b more k)

  -- each rule behind those of the grammar is such a helper
  pub shape_at : Expanded g rules → (r : ℕ) → length g.rules ≤ r → r < length rules.flats → HelperShape r
  shape_at e r h k = (rules_shaped 0 _ _ g.rules e.walk).shapes r h (omega (arith, k, e.rule_count))
