-- No code holds of one element whose names, attributes and characters are all fit for XML.
use Rattle.std.proofs.Common.{◌≡◌, ◌≢◌, subst, ◌∙◌, ℕ, zero, suc, List, [], ◌∷◌, Some, slice_get, codes, arith}
use Rattle.std.specs.Prelude.{IsTrue}
use Rattle.std.specs.List.{AllByRecursion}
use Rattle.ix_model.specs.Documents.Gives.{Givens}
use Rattle.ix_model.specs.Documents.XmlNames.{is_xml_name, is_xml_char}
use Rattle.ix_model.specs.Documents.Dyn.{attribute_at_top, not_one_element, bad_name, attribute_xmlns, same_attribute, bad_character, attribute_names, element_count, character_count, content_attributes, all_names, all_characters, HasRepeat, HasXmlns, HasNoRefusal}
use Rattle.ix_expansion_laws.proofs.Covering.{at_all}

abbrev pub IsName : List ℕ → Type 0
IsName name = IsTrue (is_xml_name name)

abbrev pub IsCharacter : ℕ → Type 0
IsCharacter c = IsTrue (is_xml_char c)

-- the names of one element's attributes
abbrev pub AreFit : List (List ℕ) → Type 0
AreFit names = (HasXmlns names → ⊥) × (HasRepeat names → ⊥)

pub no_names_fit : AreFit []
no_names_fit = (λ h. cc h.1, λ h. cc h.2)

-- one name other than `xmlns`
pub one_name_fits : (name : List ℕ) → name ≢ codes "xmlns" → AreFit (name ∷ [])
one_name_fits name other = (not_xmlns, no_repeat)
  where
    not_xmlns : HasXmlns (name ∷ []) → ⊥
    not_xmlns (zero, e) = other (cc e)
    not_xmlns (suc n, e) = cc e

    no_repeat : HasRepeat (name ∷ []) → ⊥
    no_repeat (zero, x, e, (m, l, f)) = omega (arith, l)
    no_repeat (suc n, x, e, r) = cc e

module _ (gs : Givens) (top : attribute_names gs ≡ []) (elements : element_count gs ≡ 1) (beside : character_count gs ≡ 0)
    (names : AllByRecursion IsName (all_names gs)) (attributes : AllByRecursion AreFit (content_attributes gs)) (characters : AllByRecursion IsCharacter (all_characters gs)) where
  no_xmlns : (k : ℕ) (others : List (List ℕ)) → slice_get (attribute_names gs ∷ content_attributes gs) k ≡ Some others → HasXmlns others → ⊥
  no_xmlns zero others e h =
      let p : others ≡ [] = cc (e, top) in
      no_names_fit.0 (subst HasXmlns p h)
  no_xmlns (suc k) others e h = (at_all AreFit (content_attributes gs) k others attributes e).0 h

  pub no_refusal : HasNoRefusal gs
  no_refusal (attribute_at_top name) h =
      let e : slice_get [] 0 ≡ Some name = subst (λ ns. slice_get ns 0 ≡ Some name) top h in
      cc e
  no_refusal (not_one_element a b) h = h.2 (h.0 ∙ elements, h.1 ∙ beside)
  no_refusal (bad_name name) (n, (e, p, before)) = p (at_all IsName (all_names gs) n name names e)
  no_refusal attribute_xmlns (k, others, e, h) = no_xmlns k others e h
  no_refusal (same_attribute name) (others, (n, (e, p, before)), h) = (at_all AreFit (content_attributes gs) n others attributes e).1 p
  no_refusal (bad_character c) (n, (e, p, before)) = p (at_all IsCharacter (all_characters gs) n c characters e)
