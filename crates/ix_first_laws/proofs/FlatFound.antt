-- The first tree of every symbol over every span among those of bounded height: by recursion on the bound; under one bound the helpers
-- from the last number down; and for a list by recursion on the end of the span.
use Rattle.std.proofs.Common.{◌≡◌, refl, ap, ◌∙◌, ◌⊎◌, ◌+◌, ◌<◌, ◌≤◌, ℕ, zero, suc, List, [], ◌∷◌, length, arith, slice_get, Some, Option}
use mathlib.Core.Logic.{inl, inr}
use Rattle.ix_model.specs.declared.grammar.Mark.{Mark}
use Rattle.ix_model.specs.declared.rules.Kind.TheVariants as kind
use Rattle.ix_model.specs.declared.rules.Sym.{Sym}
use Rattle.ix_model.specs.declared.rules.Sym.TheVariants as sy
use Rattle.ix_model.specs.declared.rules.Flat.{Flat}
use Rattle.ix_model.specs.Expansion.Parts.{Parts}
use Rattle.ix_model.specs.Expansion.Numbered.{kind_at}
use Rattle.ix_model.specs.Expansion.FlatDerives.{IsLine}
use Rattle.ix_model.proofs.Decide.{Answered}
use Rattle.ix_first_laws.specs.Nested.{MayLead, IsNested}
use Rattle.ix_first_laws.proofs.Lines.{leads}
use Rattle.ix_first_laws.proofs.NodeKinds.{Helper, is_named}
use Rattle.ix_first_laws.proofs.Symbols.{FoundTree, is_terminal, found_terminal, found_insertion}
use Rattle.ix_first_laws.proofs.Alternatives.{Self, nth_found, least_alt}
use Rattle.ix_first_laws.proofs.HelperTrees.{helper_found}
use Rattle.ix_first_laws.proofs.NamedTrees.{named_found, named_zero}
use Rattle.std.specs.Prelude.{unwrap_or, option_map}

module _ (plan : Parts) (nested : IsNested plan.rules) where
  -- the first trees under the bound b, from those of the named rules
  module _ (b : ℕ) (calls : (r : ℕ) (m : Option Mark) → kind_at plan.rules r ≡ kind.Named → (i j : ℕ) → FoundTree plan b (sy.Rule r m) i j) where
    -- those of the helpers from number n on
    abbrev HelpersFrom : ℕ → Type 0
    HelpersFrom n = (r : ℕ) (m : Option Mark) → Helper (kind_at plan.rules r) → n ≤ r → (i j : ℕ) → FoundTree plan b (sy.Rule r m) i j

    -- a symbol, where it is no helper before number n
    symbol_from : (n : ℕ) → HelpersFrom n → (x : Sym) → ((r : ℕ) (m : Option Mark) → x ≡ sy.Rule r m → Helper (kind_at plan.rules r) → n ≤ r) → (i j : ℕ) → FoundTree plan b x i j
    symbol_from n helpers (sy.Term t shown) above i j = found_terminal plan b t shown i j (is_terminal plan t shown i j)
    symbol_from n helpers (sy.Insert k) above i j = found_insertion plan b k i j (grind arith)
    symbol_from n helpers (sy.Rule r m) above i j = by_kind (is_named (kind_at plan.rules r))
      where
        by_kind : Answered (kind_at plan.rules r ≡ kind.Named) → FoundTree plan b (sy.Rule r m) i j
        by_kind (inl h) = calls r m h i j
        by_kind (inr h) = helpers r m h (above r m refl h) i j

    -- a helper over spans that end before n, from the later helpers, and from itself over shorter spans
    helper_up : (r : ℕ) → Helper (kind_at plan.rules r) → HelpersFrom (suc r) → (n : ℕ) (m : Option Mark) (i j : ℕ) → j < n → FoundTree plan b (sy.Rule r m) i j
    helper_up r helper later zero m i j l = absurd (omega (arith, l))
    helper_up r helper later (suc n) m i j l = from_shorter (λ m i k q. helper_up r helper later n m i k (omega (arith, l, q)))
      where
        above : (a n : ℕ) (syms : List Sym) (x : Sym) → IsLine plan r a syms → slice_get syms n ≡ Some x → (Self plan r x → ⊥) → (q : ℕ) (m : Option Mark) → x ≡ sy.Rule q m → Helper (kind_at plan.rules q) → suc r ≤ q
        above a n syms x line at other q m is h = by_lead (leads plan nested r a n q syms m line (at ∙ ap Some is))
          where
            by_lead : MayLead plan.rules r a n q → suc r ≤ q
            by_lead (inl k) = absurd (helper k)
            by_lead (inr (inl k)) = absurd (h k)
            by_lead (inr (inr (inl k))) = omega (arith, k)
            by_lead (inr (inr (inr k))) = absurd (other (q, m, is, k.0, k.1))

        from_shorter : ((m : Option Mark) (i k : ℕ) → k < j → FoundTree plan b (sy.Rule r m) i k) → FoundTree plan b (sy.Rule r m) i j
        from_shorter self =
            helper_found plan nested b r i j helper m (least_alt plan b r i j
            (λ a syms n i k line. nth_found plan b r syms j (λ n x at other. symbol_from (suc r) later x (above a n syms x line at other)) (λ m i k list q. self m i k q) n i k))

    -- past the last rule all are named by default
    no_helper : (fs : List Flat) (r : ℕ) → length fs ≤ r → unwrap_or (option_map (λ (flat : Flat). flat.kind) (slice_get fs r)) kind.Named ≡ kind.Named
    no_helper [] r l = refl
    no_helper (f ∷ fs) zero l = absurd (omega (arith, l))
    no_helper (f ∷ fs) (suc r) l = no_helper fs r (omega (arith, l))

    helpers_from : (count n : ℕ) → length plan.rules.flats ≤ n + count → HelpersFrom n
    helpers_from zero n l r m h k i j = absurd (h (no_helper plan.rules.flats r (omega (arith, l, k))))
    helpers_from (suc count) n l r m h k i j = by_number (helpers_from count (suc n) (omega (arith, l))) (grind (arith, k))
      where
        by_number : HelpersFrom (suc n) → (n ≡ r) ⊎ (suc n ≤ r) → FoundTree plan b (sy.Rule r m) i j
        by_number later (inr q) = later r m h q i j
        by_number later (inl q) = helper_up r h (λ p m h k. later p m h (omega (arith, q, k))) (suc j) m i j (omega arith)

    every_symbol : (x : Sym) (i j : ℕ) → FoundTree plan b x i j
    every_symbol x i j = symbol_from 0 (helpers_from (length plan.rules.flats) 0 (omega arith)) x (λ r m is h. omega arith) i j

  -- whatever the bound, there is a first tree of the symbol over the span, or there is none
  pub found_within : (b : ℕ) (x : Sym) (i j : ℕ) → FoundTree plan b x i j
  found_within zero x i j = every_symbol 0 (λ r m named i j. named_zero plan nested 0 r i j named m refl) x i j
  found_within (suc b) x i j = every_symbol (suc b) (λ r m named i j. next_call r m named i j (found_within b)) x i j
    where
      next_call : (r : ℕ) (m : Option Mark) → kind_at plan.rules r ≡ kind.Named → (i j : ℕ) → ((x : Sym) (i j : ℕ) → FoundTree plan b x i j) → FoundTree plan (suc b) (sy.Rule r m) i j
      next_call r m named i j each = named_found plan nested b r i j named m (each (sy.Rule r m) i j)
          (least_alt plan b r i j (λ a syms n i k line. nth_found plan b r syms j (λ n x at other i k. each x i k) (λ m i k list q. each (sy.Rule r m) i k) n i k))
