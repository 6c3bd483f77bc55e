use Rattle.ix_closure.proofs.Due.OneOutcome.{follows_once}
use Rattle.ix_closure.proofs.Due.SomeOutcome.{follows_there}
use Rattle.ix_closure.proofs.laws.step_brings_one_list.Goals as goal

pub returns-clause-one : goal.returns-clause-one
returns-clause-one c = follows_once

pub returns-clause-some : goal.returns-clause-some
returns-clause-some c = follows_there
