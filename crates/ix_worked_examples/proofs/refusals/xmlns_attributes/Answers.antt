use Rattle.std.proofs.Common.{refl, codes}
use Rattle.ix_model.specs.Documents.XmlNames.{is_xml_name_start, is_xml_name_char}
use Rattle.ix_examples.specs.SmallGivens.{with_xmlns, xmlns_within}
use Rattle.ix_worked_examples.proofs.SmallDocuments.{from_four}
use Rattle.ix_worked_examples.proofs.refusals.xmlns_attributes.Goals as goal

pub returns-clause-outer : goal.returns-clause-outer
unfolding is_xml_name_start is_xml_name_char
returns-clause-outer c = ((1, _, refl, (0, refl)), from_four (codes "S") with_xmlns refl)

pub returns-clause-inner : goal.returns-clause-inner
unfolding is_xml_name_start is_xml_name_char
returns-clause-inner c = ((2, _, refl, (0, refl)), from_four (codes "S") xmlns_within refl)
