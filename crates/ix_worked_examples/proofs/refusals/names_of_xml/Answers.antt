use Rattle.std.proofs.Common.{refl}
use Rattle.ix_model.specs.Documents.XmlNames.{is_xml_name_start, is_xml_name_char, is_xml_char}
use Rattle.ix_worked_examples.proofs.refusals.names_of_xml.Goals as goal

pub returns-clause-letters : goal.returns-clause-letters
unfolding is_xml_name_start is_xml_name_char
returns-clause-letters c = refl

pub returns-clause-colon : goal.returns-clause-colon
unfolding is_xml_name_start is_xml_name_char
returns-clause-colon c = refl

pub returns-clause-underscore : goal.returns-clause-underscore
unfolding is_xml_name_start is_xml_name_char
returns-clause-underscore c = refl

pub returns-clause-accents : goal.returns-clause-accents
unfolding is_xml_name_start is_xml_name_char
returns-clause-accents c = refl

pub returns-clause-digit_first : goal.returns-clause-digit_first
unfolding is_xml_name_start is_xml_name_char
returns-clause-digit_first c = refl

pub returns-clause-ordinal : goal.returns-clause-ordinal
unfolding is_xml_name_start is_xml_name_char
returns-clause-ordinal c = refl

pub returns-clause-times : goal.returns-clause-times
unfolding is_xml_name_start is_xml_name_char
returns-clause-times c = refl

pub returns-clause-mark_first : goal.returns-clause-mark_first
unfolding is_xml_name_start is_xml_name_char
returns-clause-mark_first c = refl

pub returns-clause-space : goal.returns-clause-space
unfolding is_xml_name_start is_xml_name_char
returns-clause-space c = refl

pub returns-clause-tab : goal.returns-clause-tab
unfolding is_xml_char
returns-clause-tab c = refl

pub returns-clause-vertical_tab : goal.returns-clause-vertical_tab
unfolding is_xml_char
returns-clause-vertical_tab c = refl

pub returns-clause-surrogate : goal.returns-clause-surrogate
unfolding is_xml_char
returns-clause-surrogate c = refl

pub returns-clause-replacement : goal.returns-clause-replacement
unfolding is_xml_char
returns-clause-replacement c = refl

pub returns-clause-no_character : goal.returns-clause-no_character
unfolding is_xml_char
returns-clause-no_character c = refl

pub returns-clause-greatest : goal.returns-clause-greatest
unfolding is_xml_char
returns-clause-greatest c = refl
