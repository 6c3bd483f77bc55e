use Rattle.std.proofs.Common.{refl}
use Rattle.ix_model.specs.Documents.XmlNames.{is_xml_name_start, is_xml_name_char}
use Rattle.ix_worked_examples.proofs.xml_names.whole_names.Goals as goal

pub returns-clause-further : goal.returns-clause-further
unfolding is_xml_name_start is_xml_name_char
returns-clause-further c = refl

pub returns-clause-last : goal.returns-clause-last
unfolding is_xml_name_start is_xml_name_char
returns-clause-last c = refl

pub returns-clause-middle : goal.returns-clause-middle
unfolding is_xml_name_start is_xml_name_char
returns-clause-middle c = refl

pub returns-clause-first : goal.returns-clause-first
unfolding is_xml_name_start is_xml_name_char
returns-clause-first c = refl

pub returns-clause-start_alone : goal.returns-clause-start_alone
unfolding is_xml_name_start is_xml_name_char
returns-clause-start_alone c = refl

pub returns-clause-further_alone : goal.returns-clause-further_alone
unfolding is_xml_name_start is_xml_name_char
returns-clause-further_alone c = refl
