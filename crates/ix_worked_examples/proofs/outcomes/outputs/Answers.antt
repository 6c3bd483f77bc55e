use Rattle.std.proofs.Common.{refl}
use Rattle.std.specs.Fmt.{digits}
use Rattle.ix_model.specs.Documents.FailedXml.{failed_xml}
use Rattle.ix_worked_examples.proofs.outcomes.outputs.Goals as goal

pub returns-clause-failed : goal.returns-clause-failed
unfolding failed_xml digits
returns-clause-failed c = refl

pub returns-clause-single : goal.returns-clause-single
unfolding lib.Utf8.encode
returns-clause-single c = refl

pub returns-clause-ambiguous : goal.returns-clause-ambiguous
unfolding lib.Utf8.encode
returns-clause-ambiguous c = refl
