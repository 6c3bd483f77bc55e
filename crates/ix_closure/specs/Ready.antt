-- What the code of a step asks, and what it gives. It is this project's own.
use Rattle.std.specs.Prelude.{◌≡◌, ℕ, ◌<◌, ◌≤◌, List, ◌++◌, length, remove, Option, Some, IsSome}
use Rattle.std.specs.List.{All}
use Rattle.ix_model.specs.declared.grammar.Mark.{Mark}
use Rattle.ix_model.specs.declared.rules.Sym.TheVariants as sym
use Rattle.ix_model.specs.Expansion.Parts.{Parts}
use Rattle.ix_model.specs.Expansion.Slots.{sym_after}
use Rattle.ix_cluster.specs.declared.cluster.Edge.{Edge as Arc}
use Rattle.ix_cluster.specs.declared.fact.Fact.{Fact}
use Rattle.ix_cluster.specs.Steps.{end_answer}
use Rattle.ix_closure.specs.declared.owed.Owed.{Owed}
use Rattle.ix_closure.specs.declared.owed.Owed.TheVariants.{Claim, Edge, End, Arrive}
use Rattle.ix_closure.specs.Follows.{Follows}

-- the slot is there and has a symbol behind its dot, so there is a next slot
abbrev pub HasFurther : Parts → ℕ → Type 0
HasFurther plan s = (s < length plan.slots) × IsSome (sym_after plan s)

-- the slot by which the step's home is told is there
abbrev pub HasSlot : Parts → Owed → Type 0
HasSlot plan (Claim s l p) = s < length plan.slots
HasSlot plan (Edge r k s l) = Unit {0}
HasSlot plan (End r k e) = Unit {0}
HasSlot plan (Arrive sub) = sub.slot < length plan.slots

-- the numbers of the step are in range
abbrev pub IsReady : Parts → List Fact → Owed → Type 0
IsReady plan log (Claim s l p) = (s < length plan.slots) × (p ≤ length plan.text)
IsReady plan log (Edge r k s l) = (s < length plan.slots) × (r < length plan.rules.flats) × ((mark : Option Mark) × (sym_after plan s ≡ Some (sym.Rule r mark)))
IsReady plan log (End r k e) = All (λ (edge : Arc). HasFurther plan edge.slot) (end_answer log r k e)
IsReady plan log (Arrive sub) = sub.slot < length plan.slots

-- the n-th owed step was taken out, and what follows from it is behind the others
abbrev pub IsReplaced : Parts → List Fact → Owed → List Owed → ℕ → List Owed → Type 0
IsReplaced plan log step owed n new = (more : List Owed) × Follows plan log step more × (new ≡ remove owed n ++ more)
