-- An event keeps a state tidy.
use Rattle.std.proofs.Common.{ℕ, List}
use Rattle.ix_model.specs.Expansion.Parts.{Parts}
use Rattle.ix_model.specs.Expansion.Planned.{IsPlanned}
use Rattle.ix_cluster.specs.declared.fact.Fact.{Fact}
use Rattle.ix_closure.specs.declared.owed.Owed.{Owed}
use Rattle.ix_closure.specs.declared.owed.Owed.TheVariants.{Claim, Edge, End, Arrive}
use Rattle.ix_closure.specs.Balance.{IsBalanced}
use Rattle.ix_closure.specs.Events.{Event}
use Rattle.ix_closure.specs.Seen.{State}
use Rattle.ix_closure.specs.Tidy.{IsTidy}
use Rattle.ix_closure.proofs.Tidying.TidyArrival.{arrive_tidy}
use Rattle.ix_closure.proofs.Tidying.TidyClaim.{claim_tidy}
use Rattle.ix_closure.proofs.Tidying.TidyEdge.{edge_tidy}
use Rattle.ix_closure.proofs.Tidying.TidyEnd.{end_tidy}
use Rattle.ix_closure.proofs.Tidying.TidyStep.{IsDone, event_done}

-- by the kind of its step
step_tidy : (plan : Parts) → IsPlanned plan → (old new : State) (n : ℕ) (log : List Fact) (step : Owed) (more : List Owed) → IsDone plan old new n log step more → IsTidy plan old → IsBalanced plan new → IsTidy plan new
step_tidy plan planned old new n log (Claim s l p) more done tidy balanced = claim_tidy plan planned old new n log s l p more done tidy balanced
step_tidy plan planned old new n log (Edge r k s l) more done tidy balanced = edge_tidy plan planned old new n log r k s l more done tidy balanced
step_tidy plan planned old new n log (End r k e) more done tidy balanced = end_tidy plan planned old new n log r k e more done tidy balanced
step_tidy plan planned old new n log (Arrive sub) more done tidy balanced = arrive_tidy plan planned old new n log sub more done tidy balanced

pub event_tidy : (plan : Parts) → IsPlanned plan → (old : State) (n : ℕ) (new : State) → IsTidy plan old → Event plan old n new → IsBalanced plan new → IsTidy plan new
event_tidy plan planned old n new tidy event balanced =
    step_tidy plan planned old new n event.bank.log event.step event.more (event_done plan planned old new n tidy.balanced event) tidy balanced
