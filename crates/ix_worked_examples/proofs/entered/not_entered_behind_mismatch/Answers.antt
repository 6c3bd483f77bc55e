use Rattle.ix_worked_examples.proofs.SmallReadings.{b_entered}
use Rattle.ix_worked_examples.proofs.EnteredRules.{not_behind, reads_one}
use Rattle.ix_worked_examples.proofs.entered.not_entered_behind_mismatch.Goals as goal

pub returns-clause-entered : goal.returns-clause-entered
returns-clause-entered c = b_entered

pub returns-clause-not_entered : goal.returns-clause-not_entered
returns-clause-not_entered c = not_behind

pub returns-clause-offset : goal.returns-clause-offset
returns-clause-offset c = reads_one
