-- The document `<S>&amp;</S>`: no code holds of it, and a walk gives it.
use Rattle.std.proofs.Common.{◌≡◌, refl, sym, subst, ℕ, zero, suc, List, [], ◌∷◌, Some, slice_get, true}
use Rattle.std.specs.Prelude.{codes}
use Rattle.ix_examples.specs.SmallGivens.{text_of, document}
use Rattle.ix_examples.specs.SmallPlans.{only_a}
use Rattle.ix_marks.specs.MarkedLists.{MarkedLists}
use Rattle.ix_marks.specs.Standing.{StandsFor}
use Rattle.ix_model.specs.declared.grammar.Mark.TheVariants.{Element}
use Rattle.ix_model.specs.declared.step.Step.{Step}
use Rattle.ix_model.specs.declared.step.Step.TheVariants as step
use Rattle.ix_model.specs.Documents.Bare.{Bares, none, more, bare_text, bare_node}
use Rattle.ix_model.specs.Documents.Dyn.{HasNoRefusal, HasRepeat, HasXmlns, attribute_at_top, not_one_element, bad_name, attribute_xmlns, same_attribute, bad_character}
use Rattle.ix_model.specs.Documents.Gives.{gives_all}
use Rattle.ix_model.specs.Documents.WalkGives.{AreWalks}
use Rattle.ix_model.specs.Expansion.Parts.{Parts}
use Rattle.ix_model.specs.Documents.XmlNames.{is_xml_name, is_xml_name_start, is_xml_char}

no_xmlns : (k : ℕ) (names : List (List ℕ)) → slice_get ([] ∷ [] ∷ []) k ≡ Some names → ¬ (HasXmlns names)
no_xmlns zero names e h = cc (subst HasXmlns (sym {a = []} {b = names} (cc e)) h).1
no_xmlns (suc zero) names e h = cc (subst HasXmlns (sym {a = []} {b = names} (cc e)) h).1
no_xmlns (suc (suc k)) names e h = cc e

no_repeat : (k : ℕ) (names : List (List ℕ)) → slice_get ([] ∷ []) k ≡ Some names → ¬ (HasRepeat names)
no_repeat zero names e h = cc (subst HasRepeat (sym {a = []} {b = names} (cc e)) h).2
no_repeat (suc k) names e h = cc e

is_name : (n : ℕ) (name : List ℕ) → slice_get (codes "S" ∷ []) n ≡ Some name → is_xml_name name ≡ true
unfolding is_xml_name_start
is_name zero name e = subst (λ cs. is_xml_name cs ≡ true) (sym {a = name} {b = codes "S"} (cc e)) refl
is_name (suc n) name e = absurd (cc e)

is_char : (n c : ℕ) → slice_get (codes "&") n ≡ Some c → is_xml_char c ≡ true
unfolding is_xml_char
is_char zero c e = subst (λ d. is_xml_char d ≡ true) (sym {a = c} {b = 38} (cc e)) refl
is_char (suc n) c e = absurd (cc e)

pub ampersand_is_document : HasNoRefusal (document (text_of (codes "&")))
ampersand_is_document (attribute_at_top name) h = cc h
ampersand_is_document (not_one_element elements characters) h = h.2 (h.0, h.1)
ampersand_is_document (bad_name name) (n, (e, p, before)) = p (is_name n name e)
ampersand_is_document attribute_xmlns (k, names, e, h) = no_xmlns k names e h
ampersand_is_document (same_attribute name) (names, (n, (e, p, before)), h) = no_repeat n names e p
ampersand_is_document (bad_character c) (n, (e, p, before)) = p (is_char n c e)

-- an element `S` with one character of the text
abbrev one_character : Bares
one_character = more (bare_node (codes "S") Element (more (bare_text 0 1 true) none)) none

abbrev pub steps_of_one : List Step
steps_of_one = step.Enter 0 Element ∷ step.Text 0 1 true ∷ step.Leave ∷ []

pub ampersand_walked : (plan : Parts) (m : MarkedLists) → plan ≡ only_a (codes "&") →
    ((bs : Bares) → AreWalks plan.rules bs steps_of_one → StandsFor plan.rules.names m (gives_all plan.text bs)) → StandsFor plan.rules.names m (document (text_of (codes "&")))
ampersand_walked plan m e h =
    let text : List Step = step.Text 0 1 true ∷ [] in
    let walks : AreWalks plan.rules one_character steps_of_one =
    subst (λ (p : Parts). AreWalks p.rules one_character steps_of_one) (sym e) (steps_of_one, [], (0, text, refl, (text, [], refl, refl, refl), refl), refl, refl) in
    subst (λ (p : Parts). StandsFor plan.rules.names m (gives_all p.text one_character)) e (h one_character walks)
