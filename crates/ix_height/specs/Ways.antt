-- The ways to derive a span, by the spans that it is made of: one for each useful subtree, and one for each useful
-- subtree that ends an alternative.
use Rattle.std.specs.Prelude.{◌≡◌, ◌⊎◌, ℕ, Option, Some, None}
use Rattle.ix_model.specs.declared.rules.Sym.{Sym}
use Rattle.ix_model.specs.declared.rules.Sym.TheVariants as sym
use Rattle.ix_model.specs.Expansion.Parts.{Parts}
use Rattle.ix_model.specs.Expansion.SlotPlaces.{IsFirstSlot, IsLastSlot, HasNext}
use Rattle.ix_model.specs.Closure.Useful.{sub_at, Useful}
use Rattle.ix_height.specs.declared.span.Span.{Span}
use Rattle.ix_height.specs.Spans.{of_slot, of_rule}

-- the last symbol's span, if it is a rule
abbrev pub Child : Sym → ℕ → ℕ → Option Span → Type 0
Child (sym.Term n shown) k p two = two ≡ None
Child (sym.Rule q mark) k p two = two ≡ Some (of_rule q k p)
Child (sym.Insert n) k p two = two ≡ None

module _ (plan : Parts) where
  -- what stands before the last symbol: nothing, or the useful span of the slot before it
  abbrev pub Before : ℕ → ℕ → ℕ → Option Span → Type 0
  Before v l k one = (((r : ℕ) × IsFirstSlot plan v r) × (l ≡ k) × (one ≡ None)) ⊎ ((j : ℕ) × Useful plan (sub_at v l j k) × (one ≡ Some (of_slot v l k)))

  pub data Way : Span → Option Span → Option Span → Type 0 where
    -- an empty alternative
    empty : (q s l : ℕ) → Useful plan (sub_at s l l l) → IsFirstSlot plan s q → IsLastSlot plan s q → Way (of_slot s l l) None None
    -- one symbol more
    step : (v s l k p : ℕ) (x : Sym) (one two : Option Span) → Useful plan (sub_at s l k p) → HasNext plan v s x → Before v l k one → Child x k p two → Way (of_slot s l p) one two
    -- a whole alternative
    whole : (q s l k p : ℕ) → Useful plan (sub_at s l k p) → IsLastSlot plan s q → Way (of_rule q l p) (Some (of_slot s l p)) None
