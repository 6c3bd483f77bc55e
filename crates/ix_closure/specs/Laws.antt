-- Laws of steps and of the closure: what a step brings and leads to is one thing, and so are the end of a list of choices
-- and the closure; and what follows stays in the closure and in balance.
use Rattle.std.specs.Prelude.{◌≡◌, ℕ, ◌+◌, ◌<◌, ◌↔◌, List, length, Contains, Some, slice_get}
use Rattle.std.specs.List.{filter_map}
use Rattle.ix_model.specs.Expansion.Parts.{Parts}
use Rattle.ix_model.specs.Expansion.Planned.{IsPlanned}
use Rattle.ix_cluster.specs.declared.limits.TheConstants.{FACT_LIMIT}
use Rattle.ix_cluster.specs.declared.fact.Fact.{Fact}
use Rattle.ix_cluster.specs.BankSteps.{BankStep}
use Rattle.ix_cluster.specs.StepAnswers.{answer_to}
use Rattle.ix_closure_laws.specs.PartLists.{AreParts}
use Rattle.ix_cluster.specs.Banks.{recorded_sub}
use Rattle.ix_cluster.specs.ClosedFacts.{IsInClosed}
use Rattle.ix_cluster.specs.Room.{unclaimed_in}
use Rattle.ix_cluster.specs.Seen.{Bank}
use Rattle.ix_closure.specs.declared.owed.Owed.{Owed}
use Rattle.ix_closure.specs.Balance.{IsBalanced}
use Rattle.ix_closure.specs.Closure.{IsClosure}
use Rattle.ix_closure.specs.Due.{IsDue}
use Rattle.ix_closure.specs.Events.{Event, call_of, home_for, log_after}
use Rattle.ix_closure.specs.Follows.{fact_of, Follows}
use Rattle.ix_closure.specs.LastRuns.{LastRun}
use Rattle.ix_closure.specs.Ready.{HasSlot}
use Rattle.ix_closure.specs.Runs.{Run}
use Rattle.ix_closure.specs.Seen.{State}

-- a step brings no two lists of steps
abbrev pub FollowsOnce : Type 0
FollowsOnce = (plan : Parts) → IsPlanned plan → (log : List Fact) (step : Owed) (a b : List Owed) → Follows plan log step a → Follows plan log step b → a ≡ b

-- a step whose slot is there brings some list of steps
abbrev pub FollowsThere : Type 0
FollowsThere = (plan : Parts) → IsPlanned plan → (log : List Fact) (step : Owed) → HasSlot plan step → (more : List Owed) × Follows plan log step more

-- an owed step has no two outcomes
abbrev pub EventOnce : Type 0
EventOnce = (plan : Parts) → IsPlanned plan → (old : State) (n : ℕ) (a b : State) → Event plan old n a → Event plan old n b → a ≡ b

-- a step is one step of its bank, whatever the call answers
abbrev pub EventIsBankStep : Type 0
EventIsBankStep = (plan : Parts) (old : State) (n : ℕ) (new : State) → (event : Event plan old n new) → BankStep plan event.bank.log (call_of event.step) (answer_to event.bank.log (call_of event.step)) (log_after plan event.bank.log event.step)

-- a machine can have memory for the bank that does the step, with what it records
abbrev pub HasMemory : Parts → List Bank → Owed → Type 0
HasMemory plan banks step =
    (bank : Bank) → slice_get banks (home_for plan (length banks) step) ≡ Some bank → length (log_after plan bank.log step) + unclaimed_in (log_after plan bank.log step) < FACT_LIMIT

-- an owed step of a balanced state has an outcome, where there is memory
abbrev pub EventThere : Type 0
EventThere = (plan : Parts) → IsPlanned plan → (old : State) → IsBalanced plan old → (n : ℕ) (step : Owed) → slice_get old.owed n ≡ Some step → HasMemory plan old.banks step → (new : State) × Event plan old n new

-- choices lead to no two states
abbrev pub RunOnce : Type 0
RunOnce = (plan : Parts) → IsPlanned plan → (first : State) (choices : List ℕ) (a b : State) → Run plan first choices a → Run plan first choices b → a ≡ b

-- a step that follows from facts of the closure records one
abbrev pub DueIsClosed : Type 0
DueIsClosed = (plan : Parts) (facts : List Fact) → ((f : Fact) → Contains facts f → IsInClosed plan f) → (step : Owed) → IsDue plan (Contains facts) step → IsInClosed plan (fact_of step)

-- a step of a balanced state leads to a balanced state
abbrev pub EventKeepsBalance : Type 0
EventKeepsBalance = (plan : Parts) → IsPlanned plan → (old : State) (n : ℕ) (new : State) → IsBalanced plan old → Event plan old n new → IsBalanced plan new

-- steps from a balanced state lead to balanced states alone
abbrev pub RunKeepsBalance : Type 0
RunKeepsBalance = (plan : Parts) → IsPlanned plan → (first : State) (choices : List ℕ) (last : State) → IsBalanced plan first → Run plan first choices last → IsBalanced plan last

-- steps of which each is the last that is owed are steps in some order
abbrev pub LastRunIsRun : Type 0
LastRunIsRun = (plan : Parts) (first : State) (choices : List ℕ) (last : State) → LastRun plan first choices last → Run plan first choices last

-- lists of the closure have the same facts, and as many
abbrev pub ClosureOnce : Type 0
ClosureOnce = (plan : Parts) (a b : List Fact) → IsClosure plan a → IsClosure plan b → ((f : Fact) → Contains a f ↔ Contains b f) × (length a ≡ length b)

-- of facts that are the closure, the binary subtrees are exactly those of the plan: what the search for useful subtrees
-- asks for
abbrev pub ClosureListsParts : Type 0
ClosureListsParts = (plan : Parts) (facts : List Fact) → IsClosure plan facts → AreParts plan (filter_map recorded_sub facts)
