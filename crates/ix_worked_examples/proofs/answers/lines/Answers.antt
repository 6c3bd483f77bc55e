use Rattle.std.proofs.Common.{refl}
use Rattle.std.specs.Fmt.{digits}
use Rattle.ix_model.specs.Answers.Outcome.{hexadecimal}
use Rattle.ix_worked_examples.proofs.answers.lines.Goals as goal

pub returns-clause-range : goal.returns-clause-range
unfolding hexadecimal digits
returns-clause-range c = refl

pub returns-clause-elements : goal.returns-clause-elements
unfolding digits
returns-clause-elements c = refl

pub returns-clause-name : goal.returns-clause-name
unfolding lib.Utf8.encode
returns-clause-name c = refl

pub returns-clause-character : goal.returns-clause-character
unfolding hexadecimal digits
returns-clause-character c = refl

pub returns-clause-zero : goal.returns-clause-zero
unfolding hexadecimal digits
returns-clause-zero c = refl
