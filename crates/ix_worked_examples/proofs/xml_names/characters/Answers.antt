use Rattle.std.proofs.Common.{refl}
use Rattle.ix_model.specs.Documents.XmlNames.{is_xml_char}
use Rattle.ix_worked_examples.proofs.xml_names.characters.Goals as goal

pub returns-clause-tab_and_line_feed : goal.returns-clause-tab_and_line_feed
unfolding is_xml_char
returns-clause-tab_and_line_feed c = (refl, refl, refl, refl)

pub returns-clause-carriage_return : goal.returns-clause-carriage_return
unfolding is_xml_char
returns-clause-carriage_return c = (refl, refl, refl, refl)

pub returns-clause-first_plane : goal.returns-clause-first_plane
unfolding is_xml_char
returns-clause-first_plane c = (refl, refl, refl, refl)

pub returns-clause-behind_surrogates : goal.returns-clause-behind_surrogates
unfolding is_xml_char
returns-clause-behind_surrogates c = (refl, refl, refl, refl)

pub returns-clause-planes : goal.returns-clause-planes
unfolding is_xml_char
returns-clause-planes c = (refl, refl, refl, refl)

pub returns-clause-zero : goal.returns-clause-zero
unfolding is_xml_char
returns-clause-zero c = refl
