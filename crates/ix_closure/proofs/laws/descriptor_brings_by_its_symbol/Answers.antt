use Rattle.ix_closure.proofs.Small.SmallSteps.{insertion_passes, cycle_calls, nothing_ends}
use Rattle.ix_closure.proofs.laws.descriptor_brings_by_its_symbol.Goals as goal

pub returns-clause-inserts : goal.returns-clause-inserts
returns-clause-inserts c = insertion_passes

pub returns-clause-calls : goal.returns-clause-calls
returns-clause-calls c = cycle_calls

pub returns-clause-ends : goal.returns-clause-ends
returns-clause-ends c = nothing_ends
