-- Rules that are not nested: one symbol leads where it may not.
use Rattle.std.proofs.Common.{◌≡◌, ◌<◌, ℕ, slice_get, Option, Some}
use mathlib.Core.Logic.{inl, inr}
use Rattle.ix_model.specs.declared.grammar.Mark.{Mark}
use Rattle.ix_model.specs.declared.rules.Sym.TheVariants as sy
use Rattle.ix_model.specs.declared.rules.Rules.{Rules}
use Rattle.ix_model.specs.Expansion.Numbered.{kind_at, syms_at}
use Rattle.ix_first_laws.specs.Nested.{IsListAgain, MayLead, IsNested}
use Rattle.ix_first_laws.proofs.NodeKinds.{Helper}

-- a helper that leads to a helper that is not later, and not as a list again
pub not_nested : (rules : Rules) (r a n q : ℕ) (m : Option Mark) → slice_get (syms_at rules r a) n ≡ Some (sy.Rule q m) → Helper (kind_at rules r) → Helper (kind_at rules q) →
    (r < q → ⊥) → (IsListAgain rules r a n q → ⊥) → IsNested rules → ⊥
not_nested rules r a n q m at h k later again nested = by_lead (nested.below r a n q m at)
  where
    by_lead : MayLead rules r a n q → ⊥
    by_lead (inl l) = h l
    by_lead (inr (inl l)) = k l
    by_lead (inr (inr (inl l))) = later l
    by_lead (inr (inr (inr l))) = again l
