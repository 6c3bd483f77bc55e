use Rattle.std.proofs.Common.{◌≡◌, refl, ap, get_or, ℕ, zero, suc, ◌<◌, List, [], ◌∷◌, Some, slice_get, codes, arith}
use Rattle.ix_model.specs.Documents.XmlNames.{is_xml_name_start, is_xml_name_char, is_xml_name}
use Rattle.ix_model.specs.Documents.Dyn.{all_names}
use Rattle.ix_examples.specs.SmallGivens.{document, stops, three_deep}
use Rattle.ix_worked_examples.proofs.SmallDocuments.{all_pass, first_failing}
use Rattle.ix_worked_examples.proofs.refusals.names_at_any_depth.Goals as goal

-- `.b` is the third name
third : (n : ℕ) → slice_get (all_names (document stops)) n ≡ Some (codes ".b") → 1 < n
third zero e = let p : codes "S" ≡ codes ".b" = cc e in absurd (omega (arith, ap (λ (x : List ℕ). get_or x 0 0) p))
third (suc zero) e = let p : codes ".a" ≡ codes ".b" = cc e in absurd (omega (arith, ap (λ (x : List ℕ). get_or x 1 0) p))
third (suc (suc n)) e = omega arith

pub returns-clause-none : goal.returns-clause-none
unfolding is_xml_name_start is_xml_name_char
returns-clause-none c = λ name h. h.1.1 (all_pass is_xml_name (all_names (document three_deep)) refl h.0 name h.1.0)

pub returns-clause-attribute : goal.returns-clause-attribute
unfolding is_xml_name_start is_xml_name_char
returns-clause-attribute c = first_failing is_xml_name (codes "S" ∷ []) (codes "1") [] refl refl

pub returns-clause-within : goal.returns-clause-within
unfolding is_xml_name_start is_xml_name_char
returns-clause-within c = first_failing is_xml_name (codes "S" ∷ codes "S" ∷ []) (codes "-") [] refl refl

pub returns-clause-empty : goal.returns-clause-empty
unfolding is_xml_name_start is_xml_name_char
returns-clause-empty c = first_failing is_xml_name [] [] [] refl refl

pub returns-clause-not_second : goal.returns-clause-not_second
unfolding is_xml_name_start is_xml_name_char
returns-clause-not_second c = λ h. h.1.2 1 (codes ".a") (third h.0 h.1.0) refl (λ q. cc q)
