use Rattle.ix_closure.proofs.Due.OneOutcome.{event_once}
use Rattle.ix_closure.proofs.Due.SomeOutcome.{event_there}
use Rattle.ix_closure.proofs.laws.event_has_one_outcome.Goals as goal

pub returns-clause-one : goal.returns-clause-one
returns-clause-one c = event_once

pub returns-clause-some : goal.returns-clause-some
returns-clause-some c = event_there
