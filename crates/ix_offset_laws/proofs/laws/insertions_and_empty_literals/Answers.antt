use Rattle.std.proofs.Common.{[]}
use Rattle.ix_offset_laws.proofs.SmallEntered.{insertion_entered, empty_reached}
use Rattle.ix_offset_laws.proofs.SmallInsertions.{nothing_reached}
use Rattle.ix_offset_laws.proofs.laws.insertions_and_empty_literals.Goals as goal

pub returns-clause-entered : goal.returns-clause-entered
returns-clause-entered c = insertion_entered

pub returns-clause-not_reached : goal.returns-clause-not_reached
returns-clause-not_reached c = nothing_reached [] 0

pub returns-clause-empty : goal.returns-clause-empty
returns-clause-empty c = empty_reached
