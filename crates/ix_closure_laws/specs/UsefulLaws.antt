-- Laws of useful subtrees: where they stand in the closure, and what they say of the derivations of the text.
use Rattle.std.specs.Prelude.{◌≡◌, ◌↔◌, ℕ, ◌+◌, length}
use Rattle.ix_model.specs.declared.rules.Sym.{Sym}
use Rattle.ix_model.specs.declared.sub.Sub.{Sub}
use Rattle.ix_model.specs.Expansion.Parts.{Parts}
use Rattle.ix_model.specs.Expansion.Planned.{IsPlanned}
use Rattle.ix_model.specs.Expansion.FlatTrees.{FlatTree, flat_width}
use Rattle.ix_model.specs.Expansion.FlatDerives.{FlatDerives, IsFlatDerivation}
use Rattle.ix_model.specs.Expansion.SlotPlaces.{IsLastSlot}
use Rattle.ix_model.specs.Closure.Closed.{End, Part}
use Rattle.ix_model.specs.Closure.Useful.{Useful}
use Rattle.ix_closure_laws.specs.Reached.{SubReached}
use Rattle.ix_closure_laws.specs.TwoWays.{HasTwoWays, FlatAmbiguous}

-- a tree over the numbered rules is as wide as each span that it derives
abbrev pub FlatWidthIsSpan : Type 0
FlatWidthIsSpan = (plan : Parts) (d : FlatTree) (x : Sym) (i j : ℕ) → FlatDerives plan d x i j → i + flat_width d ≡ j

-- each useful subtree is in the closure
abbrev pub UsefulIsPart : Type 0
UsefulIsPart = (plan : Parts) (sub : Sub) → IsPlanned plan → Useful plan sub → Part plan sub.slot sub.left sub.pivot sub.right

-- a subtree is useful exactly where it is reached from the root
abbrev pub UsefulIsReached : Type 0
UsefulIsReached = (plan : Parts) (sub : Sub) → IsPlanned plan → Useful plan sub ↔ SubReached plan sub.slot sub.left sub.pivot sub.right

-- the text has a derivation over the numbered rules
abbrev pub HasFlatDerivation : Parts → Type 0
HasFlatDerivation plan = (d : FlatTree) × IsFlatDerivation plan d

-- the closure has a subtree of the whole first rule over the whole text
abbrev pub HasRoot : Parts → Type 0
HasRoot plan = (s : ℕ) × (pivot : ℕ) × IsLastSlot plan s 0 × Part plan s 0 pivot (length plan.text)

-- some subtree is useful
abbrev pub HasUseful : Parts → Type 0
HasUseful plan = (sub : Sub) × Useful plan sub

-- a derivation exists exactly where the first rule ends with the text, where its subtree over the text is there, and
-- where some subtree is useful
pub record DerivationIsSeen (plan : Parts) : Type 0 where
  pub end : HasFlatDerivation plan ↔ End plan 0 0 (length plan.text)
  pub root : HasFlatDerivation plan ↔ HasRoot plan
  pub useful : HasFlatDerivation plan ↔ HasUseful plan

abbrev pub RootIsThere : Type 0
RootIsThere = (plan : Parts) → IsPlanned plan → DerivationIsSeen plan

-- two derivations exist exactly where some span has two ways
abbrev pub TwoWaysAreTwoTrees : Type 0
TwoWaysAreTwoTrees = (plan : Parts) → IsPlanned plan → HasTwoWays plan ↔ FlatAmbiguous plan
