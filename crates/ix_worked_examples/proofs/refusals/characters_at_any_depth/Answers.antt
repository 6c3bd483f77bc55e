use Rattle.std.proofs.Common.{refl, [], ◌∷◌}
use Rattle.ix_model.specs.Documents.XmlNames.{is_xml_char}
use Rattle.ix_model.specs.Documents.Dyn.{all_characters}
use Rattle.ix_examples.specs.SmallGivens.{document, text_of, three_deep}
use Rattle.ix_worked_examples.proofs.SmallDocuments.{all_pass, first_failing}
use Rattle.ix_worked_examples.proofs.refusals.characters_at_any_depth.Goals as goal

pub returns-clause-none : goal.returns-clause-none
unfolding is_xml_char
returns-clause-none c = λ x h. h.1.1 (all_pass is_xml_char (all_characters (document three_deep)) refl h.0 x h.1.0)

pub returns-clause-val : goal.returns-clause-val
unfolding is_xml_char
returns-clause-val c = first_failing is_xml_char [] 0xFFFE [] refl refl

pub returns-clause-within : goal.returns-clause-within
unfolding is_xml_char
returns-clause-within c = first_failing is_xml_char (97 ∷ []) 0xB (0xC ∷ []) refl refl

pub returns-clause-outside : goal.returns-clause-outside
unfolding is_xml_char
returns-clause-outside c = first_failing is_xml_char [] 0 [] refl refl

pub returns-clause-allowed : goal.returns-clause-allowed
unfolding is_xml_char
returns-clause-allowed c = λ x h. h.1.1 (all_pass is_xml_char (all_characters (document (text_of (9 ∷ 10 ∷ 13 ∷ 32 ∷ [])))) refl h.0 x h.1.0)
