use Rattle.std.proofs.Common.{refl}
use Rattle.std.specs.Fmt.{digits}
use Rattle.ix_model.specs.Documents.FailedXml.{failed_xml}
use Rattle.ix_worked_examples.proofs.marks.failed_places.Goals as goal

pub returns-clause-three : goal.returns-clause-three
unfolding failed_xml digits
returns-clause-three c = refl

pub returns-clause-zero : goal.returns-clause-zero
unfolding failed_xml digits
returns-clause-zero c = refl
