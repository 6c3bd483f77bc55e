use Rattle.std.proofs.Common.{refl}
use Rattle.ix_model.specs.Documents.XmlNames.{is_xml_name_start, is_xml_name_char}
use Rattle.ix_worked_examples.proofs.xml_names.insides_of_names.Goals as goal

pub returns-clause-hyphen_and_stop : goal.returns-clause-hyphen_and_stop
unfolding is_xml_name_start is_xml_name_char
returns-clause-hyphen_and_stop c = (refl, refl, refl, refl)

pub returns-clause-middle_dot : goal.returns-clause-middle_dot
unfolding is_xml_name_start is_xml_name_char
returns-clause-middle_dot c = (refl, refl, refl, refl)

pub returns-clause-ties : goal.returns-clause-ties
unfolding is_xml_name_start is_xml_name_char
returns-clause-ties c = (refl, refl, refl, refl)

pub returns-clause-digits : goal.returns-clause-digits
unfolding is_xml_name_start is_xml_name_char
returns-clause-digits c = (refl, refl, refl, refl)

pub returns-clause-first_mark : goal.returns-clause-first_mark
unfolding is_xml_name_start is_xml_name_char
returns-clause-first_mark c = refl

pub returns-clause-last_mark : goal.returns-clause-last_mark
unfolding is_xml_name_start is_xml_name_char
returns-clause-last_mark c = refl

pub returns-clause-no_digit : goal.returns-clause-no_digit
unfolding is_xml_name_start is_xml_name_char
returns-clause-no_digit c = refl

pub returns-clause-no_ninth_digit : goal.returns-clause-no_ninth_digit
unfolding is_xml_name_start is_xml_name_char
returns-clause-no_ninth_digit c = refl

pub returns-clause-no_first_mark : goal.returns-clause-no_first_mark
unfolding is_xml_name_start is_xml_name_char
returns-clause-no_first_mark c = refl

pub returns-clause-no_last_mark : goal.returns-clause-no_last_mark
unfolding is_xml_name_start is_xml_name_char
returns-clause-no_last_mark c = refl

pub returns-clause-no_hyphen : goal.returns-clause-no_hyphen
unfolding is_xml_name_start is_xml_name_char
returns-clause-no_hyphen c = refl

pub returns-clause-no_stop : goal.returns-clause-no_stop
unfolding is_xml_name_start is_xml_name_char
returns-clause-no_stop c = refl

pub returns-clause-no_tie : goal.returns-clause-no_tie
unfolding is_xml_name_start is_xml_name_char
returns-clause-no_tie c = refl

pub returns-clause-no_other_tie : goal.returns-clause-no_other_tie
unfolding is_xml_name_start is_xml_name_char
returns-clause-no_other_tie c = refl

pub returns-clause-letter : goal.returns-clause-letter
unfolding is_xml_name_start is_xml_name_char
returns-clause-letter c = refl

pub returns-clause-question : goal.returns-clause-question
unfolding is_xml_name_start is_xml_name_char
returns-clause-question c = refl

pub returns-clause-plane : goal.returns-clause-plane
unfolding is_xml_name_start is_xml_name_char
returns-clause-plane c = refl
