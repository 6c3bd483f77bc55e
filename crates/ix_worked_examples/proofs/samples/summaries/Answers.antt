use Rattle.std.proofs.Common.{refl}
use Rattle.std.specs.Fmt.{digits}
use Rattle.ix_worked_examples.proofs.samples.summaries.Goals as goal

pub returns-clause-four_numbers : goal.returns-clause-four_numbers
unfolding digits
returns-clause-four_numbers c = refl

pub returns-clause-zeros : goal.returns-clause-zeros
unfolding digits
returns-clause-zeros c = refl

pub returns-clause-output : goal.returns-clause-output
unfolding digits
returns-clause-output c = refl
