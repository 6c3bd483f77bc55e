use Rattle.std.proofs.Common.{refl, [], ◌∷◌, codes}
use Rattle.ix_model.specs.Documents.XmlNames.{is_xml_name_start, is_xml_name_char}
use Rattle.ix_examples.specs.SmallGivens.{x_x, x_y_y_x, repeats_within}
use Rattle.ix_worked_examples.proofs.SmallDocuments.{at_front, two_names, two_repeat, from_five, second_pair, second_pair_repeats}
use Rattle.ix_worked_examples.proofs.refusals.same_attributes.Goals as goal

pub returns-clause-two : goal.returns-clause-two
unfolding is_xml_name_start is_xml_name_char
returns-clause-two c = ((_, at_front _ _ [] (two_repeat (codes "x") []), two_names (codes "x") []), from_five (codes "S") x_x refl (tt, (((λ e. cc e), ((λ e. cc e), tt)), tt)))

pub returns-clause-first_repeat : goal.returns-clause-first_repeat
unfolding is_xml_name_start is_xml_name_char
returns-clause-first_repeat c = ((_, at_front _ _ [] second_pair_repeats, second_pair), from_five (codes "S") x_y_y_x refl (tt, (((λ e. cc e), ((λ e. cc e), ((λ e. cc e), ((λ e. cc e), tt)))), tt)))

pub returns-clause-outer_first : goal.returns-clause-outer_first
unfolding is_xml_name_start is_xml_name_char
returns-clause-outer_first c = ((_, at_front _ _ ((codes "x" ∷ codes "x" ∷ []) ∷ []) (two_repeat (codes "y") []), two_names (codes "y") []), from_five (codes "S") repeats_within refl (tt, (((λ e. cc e), ((λ e. cc e), tt)), (((λ e. cc e), ((λ e. cc e), tt)), tt))))
