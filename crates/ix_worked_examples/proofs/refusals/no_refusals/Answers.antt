use Rattle.std.proofs.Common.{refl, [], codes}
use Rattle.ix_model.specs.Documents.XmlNames.{is_xml_name_start, is_xml_char}
use Rattle.ix_model.specs.Documents.Dyn.{same_attribute}
use Rattle.ix_examples.specs.SmallGivens.{x_within_x}
use Rattle.ix_worked_examples.proofs.SmallDocuments.{none_holds, one_name, at_front, two_names, two_repeat}
use Rattle.ix_worked_examples.proofs.refusals.no_refusals.Goals as goal

pub returns-clause-documents : goal.returns-clause-documents
unfolding is_xml_name_start is_xml_char
returns-clause-documents c = none_holds (codes "S") x_within_x refl (tt, (((λ e. cc e), tt), (((λ e. cc e), tt), tt))) (one_name (codes "x"), (one_name (codes "x"), tt)) refl

pub returns-clause-one_too_many : goal.returns-clause-one_too_many
returns-clause-one_too_many c = λ none. none (same_attribute (codes "x")) (_, at_front _ _ [] (two_repeat (codes "x") []), two_names (codes "x") [])
