use Rattle.std.proofs.Common.{refl}
use Rattle.ix_model.specs.Documents.XmlNames.{is_xml_name_start}
use Rattle.ix_worked_examples.proofs.xml_names.beginnings_of_names.Goals as goal

pub returns-clause-colon : goal.returns-clause-colon
unfolding is_xml_name_start
returns-clause-colon c = (refl, refl, refl, refl)

pub returns-clause-capitals : goal.returns-clause-capitals
unfolding is_xml_name_start
returns-clause-capitals c = (refl, refl, refl, refl)

pub returns-clause-low_line : goal.returns-clause-low_line
unfolding is_xml_name_start
returns-clause-low_line c = (refl, refl, refl, refl)

pub returns-clause-small_letters : goal.returns-clause-small_letters
unfolding is_xml_name_start
returns-clause-small_letters c = (refl, refl, refl, refl)

pub returns-clause-accents : goal.returns-clause-accents
unfolding is_xml_name_start
returns-clause-accents c = (refl, refl, refl, refl)

pub returns-clause-behind_times : goal.returns-clause-behind_times
unfolding is_xml_name_start
returns-clause-behind_times c = (refl, refl, refl, refl)

pub returns-clause-behind_division : goal.returns-clause-behind_division
unfolding is_xml_name_start
returns-clause-behind_division c = (refl, refl, refl, refl)

pub returns-clause-greek : goal.returns-clause-greek
unfolding is_xml_name_start
returns-clause-greek c = (refl, refl, refl, refl)

pub returns-clause-behind_question : goal.returns-clause-behind_question
unfolding is_xml_name_start
returns-clause-behind_question c = (refl, refl, refl, refl)

pub returns-clause-joiners : goal.returns-clause-joiners
unfolding is_xml_name_start
returns-clause-joiners c = (refl, refl, refl, refl)

pub returns-clause-superscripts : goal.returns-clause-superscripts
unfolding is_xml_name_start
returns-clause-superscripts c = (refl, refl, refl, refl)

pub returns-clause-glagolitic : goal.returns-clause-glagolitic
unfolding is_xml_name_start
returns-clause-glagolitic c = (refl, refl, refl, refl)

pub returns-clause-kana : goal.returns-clause-kana
unfolding is_xml_name_start
returns-clause-kana c = (refl, refl, refl, refl)

pub returns-clause-compatibility : goal.returns-clause-compatibility
unfolding is_xml_name_start
returns-clause-compatibility c = (refl, refl, refl, refl)

pub returns-clause-presentation : goal.returns-clause-presentation
unfolding is_xml_name_start
returns-clause-presentation c = (refl, refl, refl, refl)

pub returns-clause-planes : goal.returns-clause-planes
unfolding is_xml_name_start
returns-clause-planes c = (refl, refl, refl, refl)

pub returns-clause-none : goal.returns-clause-none
unfolding is_xml_name_start
returns-clause-none c = refl
