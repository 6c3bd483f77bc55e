-- What small grammars and texts answer.
use Rattle.std.proofs.Common.{◌≡◌, refl, sym, ◌∙◌, ℕ, false, List, [], ◌∷◌, codes, arith}
use Rattle.std.specs.Prelude.{IsUtf8}
use Rattle.std.specs.Str.{is_utf8}
use Rattle.std.proofs.lemmas.Str.{is_utf8-from_IsUtf8}
use Rattle.ix_model.specs.declared.state.State.TheVariants.{Single, Ambiguous as Several}
use Rattle.ix_model.specs.Derivations.Trees.{text}
use Rattle.ix_model.specs.Documents.Gives.{gives_root}
use Rattle.ix_model.specs.Documents.XmlNames.{is_xml_name_start, is_xml_char}
use Rattle.ix_model.specs.Documents.Dyn.{HasNoRefusal}
use Rattle.ix_model.specs.Answers.CommandLine.{parse, check, IsCommand}
use Rattle.ix_model.specs.Answers.Outcome.{failed, document as written}
use Rattle.ix_model.specs.Answers.Answer.{Parsed}
use Rattle.ix_examples.specs.SmallGrammars.{only_a, two_ways}
use Rattle.ix_examples.specs.SmallTrees.{node_of, a_tree}
use Rattle.ix_examples.specs.SmallGivens.{text_of, document}
use Rattle.ix_examples.specs.SmallAnswers.{check_g, parse_g_t}
use Rattle.ix_answer_laws.proofs.Commands.{of_read}
use Rattle.ix_model.proofs.Forming.{factor_of_one}
use Rattle.ix_model.proofs.Forms.{out_lit}
use Rattle.ix_worked_examples.proofs.SmallReadings.{one_of_ab}
use Rattle.ix_worked_examples.proofs.SmallDocuments.{none_holds, no_name}
use Rattle.ix_examples.proofs.SmallTexts.{one_a, earlier_derives, later_derives}
use Rattle.ix_worked_examples.proofs.FirstTexts.{a_is_first, earlier_is_first}

-- ---- words

pub checks_g : IsCommand check_g (check (codes "g"))
checks_g = (codes "check", codes "g" ∷ [], codes "g" ∷ [], [], refl, of_read _ _ _ refl, (refl, refl, refl))

pub parses_g_t : IsCommand parse_g_t (parse (codes "g") (codes "t") 2)
parses_g_t = (codes "parse", codes "g" ∷ codes "t" ∷ [], codes "g" ∷ codes "t" ∷ [], [], refl, of_read _ _ _ refl, (refl, refl, refl))

-- ---- bytes

-- bytes that fail the test are not UTF-8
pub not_utf8 : (bytes : List ℕ) → is_utf8 bytes ≡ false → ¬ (IsUtf8 bytes)
not_utf8 bytes e h = cc (e, is_utf8-from_IsUtf8 bytes h)

-- ---- texts

a_document : HasNoRefusal (document (text_of (codes "a")))
unfolding is_xml_name_start is_xml_char
a_document = none_holds (codes "S") (text_of (codes "a")) refl (tt, (tt, tt)) (no_name, tt) refl

given_a : document (text_of (codes "a")) ≡ gives_root (codes "a") only_a a_tree
given_a = simp (factor_of_one, out_lit) refl

given_earlier : document (text_of (codes "a")) ≡ gives_root (codes "a") two_ways (node_of 0 0 (text 0 1))
given_earlier = simp (factor_of_one, out_lit) refl

pub a_parsed : Parsed only_a (codes "a") (written (document (text_of (codes "a"))) Single)
a_parsed = (a_tree, a_is_first, given_a, a_document, λ h. h.4 ((one_a (codes "a") h.0 h.2).0 ∙ sym (one_a (codes "a") h.1 h.3).0))

pub a_parsed_twice : Parsed two_ways (codes "a") (written (document (text_of (codes "a"))) Several)
a_parsed_twice = (node_of 0 0 (text 0 1), earlier_is_first, given_earlier, a_document, (node_of 0 0 (text 0 1), node_of 0 1 (text 0 1), earlier_derives, later_derives, λ e. cc e))

pub ab_failed : Parsed only_a (codes "ab") (failed 1 1 2)
ab_failed = ((λ d h. absurd (omega (arith, (one_a (codes "ab") d h).1.0))), one_of_ab, refl, refl)
