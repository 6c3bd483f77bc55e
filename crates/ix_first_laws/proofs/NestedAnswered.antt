-- Whether numbered rules are nested is answered.
use Rattle.std.proofs.Common.{◌≡◌, refl, sym, ap, subst, ◌∙◌, ◌⊎◌, ◌<◌, ◌≤◌, ℕ, List, length, arith, slice_get, Some, None, Option}
use Rattle.std.proofs.lemmas.Option.{slice_get_within}
use mathlib.Core.Logic.{inl, inr}
use Rattle.ix_model.specs.declared.rules.Kind.TheVariants as kind
use Rattle.ix_model.specs.declared.rules.Sym.{Sym}
use Rattle.ix_model.specs.declared.rules.Sym.TheVariants as sy
use Rattle.ix_model.specs.declared.rules.Rules.{Rules}
use Rattle.ix_model.specs.Expansion.Numbered.{kind_at, lines_at, syms_at}
use Rattle.ix_model.proofs.Decide.{Answered, Least, least, both, either}
use Rattle.ix_first_laws.specs.Nested.{IsListAgain, MayLead, IsNested}
use Rattle.ix_first_laws.proofs.Lines.{past_rules, past_lines}
use Rattle.ix_first_laws.proofs.NodeKinds.{is_named, is_list}

-- ---- questions of all numbers below a bound, of all members of a list, and of what follows from an answered premise

all_below : (P : ℕ → Type 0) (n : ℕ) → ((k : ℕ) → Answered (P k)) → Answered ((k : ℕ) → k < n → P k)
all_below P n f = by_least (least (λ k. P k → ⊥) P n (λ k h. flip k (f k)))
  where
    flip : (k : ℕ) → Answered (P k) → (P k → ⊥) ⊎ P k
    flip k (inl h) = inr h
    flip k (inr h) = inl h

    by_least : Least (λ k. P k → ⊥) P n → Answered ((k : ℕ) → k < n → P k)
    by_least (inl (k, h, q, _)) = inr (λ f. q (f k h))
    by_least (inr f) = inl f

each : (X : Type 0) (P : ℕ → X → Type 0) (xs : List X) → ((n : ℕ) (x : X) → Answered (P n x)) → Answered ((n : ℕ) (x : X) → slice_get xs n ≡ Some x → P n x)
each X P xs f = by_all (all_below (λ n. (x : X) → slice_get xs n ≡ Some x → P n x) (length xs) (λ n. at n (slice_get xs n) refl))
  where
    at : (n : ℕ) (o : Option X) → slice_get xs n ≡ o → Answered ((x : X) → slice_get xs n ≡ Some x → P n x)
    at n None e = inl (λ x q. absurd (cc (sym e ∙ q)))
    at n (Some y) e = of_member (f n y)
      where
        of_member : Answered (P n y) → Answered ((x : X) → slice_get xs n ≡ Some x → P n x)
        of_member (inl h) = inl (λ x q. let z : y ≡ x = cc (sym e ∙ q) in subst (λ v. P n v) z h)
        of_member (inr h) = inr (λ g. h (g y e))

    by_all : Answered ((n : ℕ) → n < length xs → (x : X) → slice_get xs n ≡ Some x → P n x) → Answered ((n : ℕ) (x : X) → slice_get xs n ≡ Some x → P n x)
    by_all (inl h) = inl (λ n x q. h n (slice_get_within xs n x q) x q)
    by_all (inr h) = inr (λ g. h (λ n l x q. g n x q))

implied : (X Y : Type 0) → Answered X → Answered Y → Answered (X → Y)
implied X Y (inr h) y = inl (λ x. absurd (h x))
implied X Y (inl h) (inl y) = inl (λ _. y)
implied X Y (inl h) (inr y) = inr (λ f. y (f h))

module _ (rules : Rules) where
  may_lead : (r a n q : ℕ) → Answered (MayLead rules r a n q)
  may_lead r a n q = either _ _ (is_named (kind_at rules r)) (either _ _ (is_named (kind_at rules q)) (either (r < q) (IsListAgain rules r a n q) (grind arith) (again (is_list (kind_at rules r)) (grind arith))))
    where
      again : Answered (kind_at rules r ≡ kind.List) → Answered ((q ≡ r) × (a ≡ 1) × (n ≡ 0)) → Answered (IsListAgain rules r a n q)
      again (inl k) (inl h) = inl (h.0, k, h.1, h.2)
      again (inr k) h = inr (λ f. k f.1)
      again (inl k) (inr h) = inr (λ f. h (f.0, f.2, f.3))

  -- the symbol may stand there
  abbrev SymLeads : ℕ → ℕ → ℕ → Sym → Type 0
  SymLeads r a n (sy.Rule q m) = MayLead rules r a n q
  SymLeads r a n _ = Unit {0}

  sym_leads : (r a n : ℕ) (x : Sym) → Answered (SymLeads r a n x)
  sym_leads r a n (sy.Rule q m) = may_lead r a n q
  sym_leads r a n (sy.Term t m) = inl tt
  sym_leads r a n (sy.Insert k) = inl tt

  -- each symbol of the alternative may stand there
  abbrev AltLeads : ℕ → ℕ → Type 0
  AltLeads r a = (n : ℕ) (x : Sym) → slice_get (syms_at rules r a) n ≡ Some x → SymLeads r a n x

  -- each alternative of the rule is so, and a list has at most two
  abbrev RuleLeads : ℕ → Type 0
  RuleLeads r = ((a : ℕ) → a < length (lines_at rules r) → AltLeads r a) × (kind_at rules r ≡ kind.List → length (lines_at rules r) ≤ 2)

  rule_leads : (r : ℕ) → Answered (RuleLeads r)
  rule_leads r = both _ _ (all_below (AltLeads r) (length (lines_at rules r)) (λ a. each Sym (SymLeads r a) (syms_at rules r a) (sym_leads r a))) (implied _ _ (is_list (kind_at rules r)) (grind arith))

  pub nested_answered : Answered (IsNested rules)
  nested_answered = by_all (all_below RuleLeads (length rules.flats) rule_leads)
    where
      below : ((r : ℕ) → r < length rules.flats → RuleLeads r) → (r a : ℕ) → AltLeads r a
      below h r a n x e = by_place (grind arith) (grind arith)
        where
          by_place : (r < length rules.flats) ⊎ (length rules.flats ≤ r) → (a < length (lines_at rules r)) ⊎ (length (lines_at rules r) ≤ a) → SymLeads r a n x
          by_place (inl k) (inl l) = (h r k).0 a l n x e
          by_place (inr k) l = absurd (cc (ap (λ (xs : List Sym). slice_get xs n) (past_lines rules r a (omega (arith, past_rules rules r k))), e))
          by_place k (inr l) = absurd (cc (ap (λ (xs : List Sym). slice_get xs n) (past_lines rules r a l), e))

      two : ((r : ℕ) → r < length rules.flats → RuleLeads r) → (r : ℕ) → kind_at rules r ≡ kind.List → length (lines_at rules r) ≤ 2
      two h r k = by_place (grind arith)
        where
          by_place : (r < length rules.flats) ⊎ (length rules.flats ≤ r) → length (lines_at rules r) ≤ 2
          by_place (inl l) = (h r l).1 k
          by_place (inr l) = omega (arith, past_rules rules r l)

      leads_in : IsNested rules → (r a n : ℕ) (x : Sym) → slice_get (syms_at rules r a) n ≡ Some x → SymLeads r a n x
      leads_in f r a n (sy.Rule q m) e = f.below r a n q m e
      leads_in f r a n (sy.Term t m) e = tt
      leads_in f r a n (sy.Insert k) e = tt

      by_all : Answered ((r : ℕ) → r < length rules.flats → RuleLeads r) → Answered (IsNested rules)
      by_all (inl h) = inl (record { below = λ r a n q m e. below h r a n (sy.Rule q m) e; two = two h })
      by_all (inr h) = inr (λ f. h (λ r l. (λ a _ n x e. leads_in f r a n x e, f.two r)))
