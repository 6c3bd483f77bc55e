use Rattle.std.proofs.Common.{refl, [], ◌∷◌, codes}
use Rattle.ix_model.specs.Documents.XmlNames.{is_xml_name_start, is_xml_char}
use Rattle.ix_examples.specs.SmallGivens.{text_of, controls}
use Rattle.ix_worked_examples.proofs.SmallDocuments.{first_failing, from_six, no_name, one_name}
use Rattle.ix_worked_examples.proofs.refusals.bad_characters.Goals as goal

pub returns-clause-content : goal.returns-clause-content
unfolding is_xml_name_start is_xml_char
returns-clause-content c = (first_failing is_xml_char [] 1 [] refl refl, from_six (codes "S") (text_of (1 ∷ [])) refl (tt, (tt, tt)) (no_name, tt))

pub returns-clause-value_first : goal.returns-clause-value_first
unfolding is_xml_name_start is_xml_char
returns-clause-value_first c = (first_failing is_xml_char [] 0 (97 ∷ 1 ∷ []) refl refl, from_six (codes "S") controls refl (tt, (((λ e. cc e), tt), tt)) (one_name (codes "a"), tt))
