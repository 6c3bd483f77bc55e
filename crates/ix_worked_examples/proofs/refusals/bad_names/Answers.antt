use Rattle.std.proofs.Common.{refl, [], ◌∷◌, codes, arith}
use Rattle.ix_model.specs.Documents.XmlNames.{is_xml_name_start, is_xml_name}
use Rattle.ix_model.specs.Documents.Dyn.{bad_name}
use Rattle.ix_examples.specs.SmallGivens.{text_of, stops, repeat_and_hyphen}
use Rattle.ix_worked_examples.proofs.SmallDocuments.{first_failing, from_three}
use Rattle.ix_worked_examples.proofs.refusals.bad_names.Goals as goal

pub returns-clause-element : goal.returns-clause-element
unfolding is_xml_name_start
returns-clause-element c = (first_failing is_xml_name [] (170 ∷ []) [] refl refl, from_three (170 ∷ []) (text_of (codes "x")))

pub returns-clause-attribute_first : goal.returns-clause-attribute_first
unfolding is_xml_name_start
returns-clause-attribute_first c = (first_failing is_xml_name (codes "S" ∷ []) (codes ".a") (codes ".b" ∷ []) refl refl, from_three (codes "S") stops)

pub returns-clause-before_repeat : goal.returns-clause-before_repeat
unfolding is_xml_name_start
returns-clause-before_repeat c = (first_failing is_xml_name (codes "S" ∷ codes "a" ∷ codes "a" ∷ []) (codes "-") [] refl refl, from_three (codes "S") repeat_and_hyphen)

pub returns-clause-not_repeat : goal.returns-clause-not_repeat
unfolding is_xml_name_start
returns-clause-not_repeat c = λ h. omega (arith, h.1 (bad_name (codes "-")) (first_failing is_xml_name (codes "S" ∷ codes "a" ∷ codes "a" ∷ []) (codes "-") [] refl refl))
