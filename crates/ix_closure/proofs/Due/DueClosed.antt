-- What follows from facts of the closure is in the closure.
use Rattle.std.proofs.Common.{Contains}
use Rattle.ix_model.specs.Closure.Closed as closed
use Rattle.ix_model.specs.Expansion.Parts.{Parts}
use Rattle.ix_cluster.specs.declared.fact.Fact.{Fact}
use Rattle.ix_cluster.specs.declared.fact.Fact.TheVariants as fact
use Rattle.ix_cluster.specs.ClosedFacts.{IsInClosed}
use Rattle.ix_closure.specs.declared.owed.Owed.{Owed}
use Rattle.ix_closure.specs.Balance.{IsBalanced}
use Rattle.ix_closure.specs.Due.{IsDue, IsRecorded, claim, passed, inserted, waits, ends, meets}
use Rattle.ix_closure.specs.Follows.{fact_of}
use Rattle.ix_closure.specs.Seen.{State}
use Rattle.ix_closure.proofs.Balancing.RecordedFacts.{recorded_closed}

module _ (plan : Parts) (Holds : Fact → Type 0) (true_fact : (f : Fact) → Holds f → IsInClosed plan f) where
  -- what a due step is to record
  pub due_closed : (o : Owed) → IsDue plan Holds o → IsInClosed plan (fact_of o)
  due_closed o (claim s l p h) = true_fact (fact.Desc s l p) h
  due_closed o (passed s l p after e x h n t) = closed.scanned s l p after e x (true_fact (fact.Claim s l p) h) n t
  due_closed o (inserted s l p after n h next) = closed.inserted s l p after n (true_fact (fact.Claim s l p) h) next
  due_closed o (waits s l p after r mark h next) = closed.waiting s l p after r mark (true_fact (fact.Claim s l p) h) next
  due_closed o (ends s l p r h last) = closed.ended s l p r (true_fact (fact.Claim s l p) h) last
  due_closed o (meets r k s l e after mark edge end next) = closed.joined r k s l e after mark (true_fact (fact.Edge r k s l) edge) (true_fact (fact.End r k e) end) next

-- so what an owed step of a balanced state is to record
pub owed_closed : (plan : Parts) (state : State) → IsBalanced plan state → (o : Owed) → Contains state.owed o → IsInClosed plan (fact_of o)
owed_closed plan state balanced o h = due_closed plan (IsRecorded state.banks) (recorded_closed plan state.banks balanced.sound) o (balanced.caused o h)
