use Rattle.std.proofs.Common.{◌≡◌, refl, ap, true, false}
use Rattle.std.specs.Fmt.{digits}
use Rattle.std.specs.Str.{bytes_eq}
use Rattle.ix_model.specs.Documents.FailedXml.{failed_xml}
use Rattle.ix_worked_examples.proofs.documents.failed_document.Goals as goal

pub returns-clause-bytes : goal.returns-clause-bytes
unfolding failed_xml digits
returns-clause-bytes c = refl

pub returns-clause-other_column : goal.returns-clause-other_column
unfolding failed_xml digits
returns-clause-other_column c = λ e. let x : false ≡ true = ap (λ bytes. bytes_eq bytes (failed_xml 1 1 3)) e in cc x
