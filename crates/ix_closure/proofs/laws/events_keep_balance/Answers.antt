use Rattle.ix_closure.proofs.Balancing.EventBalance.{event_balanced, run_balanced}
use Rattle.ix_closure.proofs.laws.events_keep_balance.Goals as goal

pub returns-clause-one : goal.returns-clause-one
returns-clause-one c = λ plan planned old n new balanced event. event_balanced plan planned old new n balanced event

pub returns-clause-all : goal.returns-clause-all
returns-clause-all c = run_balanced
