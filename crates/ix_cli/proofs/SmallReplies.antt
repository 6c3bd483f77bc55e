-- The worked examples of the table of answers.
use Rattle.std.proofs.Common.{◌≡◌, ◌<◌, refl, sym, ap, ◌∙◌, ℕ, List, [], ◌∷◌, zero, suc, length, Some, take, subst, codes, arith}
use Rattle.std.specs.Prelude.{IsUtf8}
use mathlib.Core.Logic.{inl, inr}
use lib.Utf8.{encode}
use Rattle.unicode.specs.GeneralCategory.{general_category}
use Rattle.unicode.specs.Rows.{value_in}
use Rattle.ucd_category.specs.GeneralCategoryRows.{general_category_rows}
use Rattle.std.specs.Str.{chars, is_utf8}
use Rattle.std.specs.Str.Lossy.{utf8_valid_len}
use Rattle.ix_model.specs.declared.grammar.Grammar.{Grammar}
use Rattle.ix_model.specs.declared.state.State.TheVariants.{Single, Ambiguous}
use Rattle.ix_model.specs.Answers.Answer.{HoldsConforming, GrammarRefused, TextAnswered, CommandAnswered}
use Rattle.ix_model.specs.Answers.CommandLine.{Command, parse}
use Rattle.ix_model.specs.Answers.Limits.{text_limit}
use Rattle.ix_model.specs.Answers.Outcome.{Outcome, document, failed, no_form, no_grammar, grammar_too_long, grammar_not_utf8, text_too_long, text_not_utf8, status_of, output_of}
use Rattle.ix_model.specs.Spelling.Characters.{is_blank, is_name_start, is_name_part}
use Rattle.ix_examples.specs.SmallAnswers.{parse_g_t, one_way, both_ways}
use Rattle.ix_examples.specs.SmallGivens.{text_of, document as element_with}
use Rattle.ix_examples.specs.SmallGrammars as grammars
use Rattle.ix_examples.proofs.SmallTexts.{first}
use Rattle.ix_examples.proofs.SmallConforming.{only_a_conforms, two_ways_conforms, shallow_a, shallow_both}
use Rattle.ix_spelling_laws.proofs.ByReading.{reads, reads_none}
use Rattle.ix_worked_examples.proofs.SmallAnswers.{parses_g_t, not_utf8, a_parsed, a_parsed_twice, ab_failed}
use Rattle.ix_cli.specs.Answered.{IsAnswered, IsCutOff}
use Rattle.ix_edge.specs.Told.{Told, held}
use Rattle.ix_answer_laws.proofs.Commands.{no_words}
use Rattle.ix_answer_laws.proofs.OneAnswer.{refused_or_held}
use Rattle.ix_cli.specs.Causes.{Parses, OfText, IsCaused}
use Rattle.ix_cli.specs.Examples.{holding, without_text, raised, no_count}
use Rattle.ix_cli.specs.Says.{Says}
use Rattle.ix_cli.specs.Table.{IsReply}
use Rattle.ix_cli.specs.Unread.{IsNext, IsUnread, HoldsSome}
use Rattle.ix_cli.proofs.Caused.{reply_caused}
use Rattle.ix_cli.proofs.Options.{some_is}
use Rattle.ix_cli.proofs.OneReply.{one_reply}
use Rattle.ix_cli.proofs.SmallWords.{of_parse}

abbrev pub parsing : Command
parsing = parse (codes "g") (codes "t") 2

-- ---- grammars

pub holds_one_way : HoldsConforming one_way grammars.only_a
unfolding is_blank is_name_start is_name_part general_category value_in general_category_rows chars encode
holds_one_way = (((omega arith, (one_way, (refl, refl))), reads _ _ refl, shallow_a), only_a_conforms)

holds_both_ways : HoldsConforming both_ways grammars.two_ways
unfolding is_blank is_name_start is_name_part general_category value_in general_category_rows chars encode
holds_both_ways = (((omega arith, (both_ways, (refl, refl))), reads _ _ refl, shallow_both), two_ways_conforms)

-- no bytes are no grammar
pub nothing_refused : GrammarRefused [] no_grammar
unfolding is_blank is_name_start is_name_part general_category value_in general_category_rows chars encode
nothing_refused = ((omega arith, ([], (refl, refl))), reads_none _ refl)

pub no_grammar_here : (text : List ℕ) → IsReply parse_g_t (holding [] text) no_grammar
no_grammar_here text = inr (parsing, parses_g_t, ([], refl, inl nothing_refused))

pub no_grammar_alone : IsReply parse_g_t (without_text []) no_grammar
no_grammar_alone = inr (parsing, parses_g_t, ([], refl, inl nothing_refused))

pub long_grammar : (bytes : List ℕ) → length bytes ≡ 1048577 → IsReply parse_g_t (holding bytes []) grammar_too_long
long_grammar bytes e = inr (parsing, parses_g_t, (bytes, refl, inl (omega (arith, e))))

pub other_grammar : (bytes : List ℕ) → length bytes ≡ 1048576 → ¬ (IsUtf8 bytes) → IsReply parse_g_t (holding bytes []) (grammar_not_utf8 (utf8_valid_len bytes))
other_grammar bytes e n = inr (parsing, parses_g_t, (bytes, refl, inl (omega (arith, e), n, refl)))

-- ---- texts

-- the files hold a text for `S: "a".`
pub under_one_way : (s : List ℕ) (o : Outcome) → TextAnswered grammars.only_a s o → IsReply parse_g_t (holding one_way s) o
under_one_way s o h = inr (parsing, parses_g_t, (one_way, refl, inr (grammars.only_a, holds_one_way, s, refl, h)))

abbrev pub a_document : Outcome
a_document = document (element_with (text_of (codes "a"))) Single

pub a_answered : TextAnswered grammars.only_a (codes "a") a_document
unfolding chars encode
a_answered = ((omega arith, (codes "a", (refl, refl))), a_parsed)

pub answered : IsReply parse_g_t (holding one_way (codes "a")) a_document
answered = under_one_way (codes "a") _ a_answered

pub answered_twice : IsReply parse_g_t (holding both_ways (codes "a")) (document (element_with (text_of (codes "a"))) Ambiguous)
unfolding chars encode
answered_twice = inr (parsing, parses_g_t, (both_ways, refl, inr (grammars.two_ways, holds_both_ways, codes "a", refl, ((omega arith, (codes "a", (refl, refl))), a_parsed_twice))))

pub ab_answered : TextAnswered grammars.only_a (codes "ab") (failed 1 1 2)
unfolding chars encode
ab_answered = ((omega arith, (codes "ab", (refl, refl))), ab_failed)

pub no_derivation : IsReply parse_g_t (holding one_way (codes "ab")) (failed 1 1 2)
no_derivation = under_one_way (codes "ab") _ ab_answered

pub text_of_no_characters : CommandAnswered (held (holding one_way (97 ∷ 195 ∷ []))) parsing (text_not_utf8 1)
unfolding utf8_valid_len is_utf8 chars encode
text_of_no_characters = (one_way, refl, inr (grammars.only_a, holds_one_way, 97 ∷ 195 ∷ [], refl, (omega arith, not_utf8 _ refl, refl)))

pub no_text_here : IsReply parse_g_t (holding one_way (97 ∷ 195 ∷ [])) (text_not_utf8 1)
no_text_here = inr (parsing, parses_g_t, text_of_no_characters)

pub long_text : (bytes : List ℕ) → length bytes ≡ 16777217 → IsReply parse_g_t (holding one_way bytes) text_too_long
long_text bytes e = under_one_way bytes _ (omega (arith, e))

pub other_text : (bytes : List ℕ) → length bytes ≡ 16777216 → ¬ (IsUtf8 bytes) → IsReply parse_g_t (holding one_way bytes) (text_not_utf8 (utf8_valid_len bytes))
other_text bytes e n = under_one_way bytes _ (omega (arith, e), n, refl)

-- ---- other answers

module _ (o : Outcome) where
  pub the_document : IsReply parse_g_t (holding one_way (codes "a")) o → a_document ≡ o
  the_document h = one_reply parse_g_t (holding one_way (codes "a")) _ o answered h

  pub the_failure : IsReply parse_g_t (holding one_way (codes "ab")) o → failed 1 1 2 ≡ o
  the_failure h = one_reply parse_g_t (holding one_way (codes "ab")) _ o no_derivation h

  pub the_refusal : (text : List ℕ) → IsReply parse_g_t (holding [] text) o → no_grammar ≡ o
  the_refusal text h = one_reply parse_g_t (holding [] text) _ o (no_grammar_here text) h

  pub no_words_reply : (files : Told) → IsReply [] files o → o ≡ no_form
  no_words_reply files (inl h) = h.1
  no_words_reply files (inr h) = absurd (no_words h.0 h.1)

-- ---- causes

pub failure_caused : IsCaused parse_g_t (holding one_way (codes "ab")) 1
failure_caused = reply_caused parse_g_t (holding one_way (codes "ab")) _ no_derivation

pub no_text_caused : IsCaused parse_g_t (holding one_way (97 ∷ 195 ∷ [])) 5
no_text_caused = reply_caused parse_g_t (holding one_way (97 ∷ 195 ∷ [])) _ no_text_here

-- where the files lack the text there is no answer
pub nothing_without_text : (o : Outcome) → ¬ (IsReply parse_g_t (without_text one_way) o)
nothing_without_text o (inl h) = h.0 parsing parses_g_t
nothing_without_text o (inr (command, is, h)) = by_command (of_parse (λ c. CommandAnswered (held (without_text one_way)) c o) command is h)
  where
    by_command : CommandAnswered (held (without_text one_way)) parsing o → ⊥
    by_command (bytes, e, inl r) = refused_or_held one_way o grammars.only_a (subst (λ b. GrammarRefused b o) (sym (some_is e)) r) holds_one_way
    by_command (bytes, e, inr (g, h, s, f, a)) = absurd (cc f)

-- a text of the greatest length is not too long
pub not_long_text : (bytes : List ℕ) → length bytes ≡ 16777216 → ¬ (IsCaused parse_g_t (holding one_way bytes) 6)
not_long_text bytes e h = by_cause (h.too_long.0 refl)
  where
    by_cause : OfText parse_g_t (holding one_way bytes) (λ g s. text_limit < length s) → ⊥
    by_cause (command, is, g, s, parses, less) = by_parse (of_parse (λ c. Parses (holding one_way bytes) c g s) command is parses)
      where
        by_parse : Parses (holding one_way bytes) parsing g s → ⊥
        by_parse (more, q, c, f) = omega (arith, e, less, ap (λ (xs : List ℕ). length xs) (some_is f))

-- ---- what was written

abbrev Said : List ℕ → Type 0
Said = Says (Some []) (Some []) 0 0

abbrev Replied : List ℕ → ℕ → Type 0
Replied bytes status = IsAnswered parse_g_t (Some (holding one_way (codes "a"))) (Some []) (Some bytes) status Said

pub one_document : output_of a_document ≡ codes "<S>a</S>\n"
unfolding encode
one_document = refl

pub written_whole : Replied (codes "<S>a</S>\n") 0
written_whole = (a_document, answered, refl, sym one_document, λ n. refl)

pub the_output : (o : Outcome) → IsReply parse_g_t (holding one_way (codes "a")) o → output_of o ≡ codes "<S>a</S>\n"
the_output o h = sym (ap output_of (the_document o h)) ∙ one_document

pub not_shorter : ¬ (Replied (codes "<S>a</S>") 0)
not_shorter (o, r, e, a, s) = let f : 8 ≡ 9 = ap length (a ∙ the_output o r) in omega (arith, f)

pub not_nothing : ¬ (Replied [] 3)
not_nothing (o, r, e, a, s) = omega (arith, e ∙ sym (ap status_of (the_document o r)))

abbrev CutOff : List ℕ → Type 0
CutOff bytes = IsCutOff parse_g_t (Some (holding one_way (codes "a"))) (Some []) (Some bytes)

pub written_front : CutOff (codes "<S>a")
written_front = (a_document, answered, omega (arith, ap length one_document), 4, sym (ap (take 4) one_document))

-- the front of a document begins as the document does
first_or : ℕ → List ℕ → ℕ
first_or n [] = n
first_or n (x ∷ xs) = x

begins_same : (n x : ℕ) (xs : List ℕ) → first_or x (take n (x ∷ xs)) ≡ x
unfolding first_or
begins_same zero x xs = refl
begins_same (suc n) x xs = refl

pub no_front : (n : ℕ) → codes "S" ≡ take n (codes "<S>a</S>\n") → ⊥
unfolding first_or
no_front n e = omega (arith, ap (first_or 60) e ∙ begins_same n 60 (codes "S>a</S>\n"))

pub not_another_front : ¬ (CutOff (codes "S"))
not_another_front (o, r, some, n, a) = no_front n (a ∙ ap (take n) (the_output o r))

-- a grammar that is refused has no output
pub no_output : ¬ (IsCutOff parse_g_t (Some (holding [] [])) (Some []) (Some []))
no_output (o, r, some, n, a) = omega (arith, some, ap (λ x. length (output_of x)) (the_refusal o [] r))

-- ---- what could not be read

none_in_nothing : (g : Grammar) → ¬ (HoldsConforming [] g)
unfolding is_blank is_name_start is_name_part general_category value_in general_category_rows chars encode
none_in_nothing g h = reads_none [] refl g h.0.1

pub none_held : (bytes : List ℕ) → bytes ≡ [] → (g : Grammar) → ¬ (HoldsConforming bytes g)
none_held bytes e g h = none_in_nothing g (subst (λ b. HoldsConforming b g) e h)

pub not_held_some : ¬ (HoldsSome (Some (holding [] [])) (codes "g"))
not_held_some h = none_held h.0 (sym (some_is h.1)) h.2.0 h.2.1

-- the text is not read where the files hold no grammar
pub text_after_grammar : ¬ (IsUnread parse_g_t (Some (holding [] [])) no_count (raised (codes "t")) (codes "t"))
text_after_grammar (command, is, rose, next) = by_next (of_parse (λ c. IsNext (Some (holding [] [])) c (codes "t")) command is next)
  where
    by_next : IsNext (Some (holding [] [])) parsing (codes "t") → ⊥
    by_next (inl e) = omega (arith, ap first e)
    by_next (inr (e, h)) = not_held_some h

-- nor is a file that is not named
pub other_unread : ¬ (IsUnread parse_g_t (Some (holding [] [])) no_count (raised (codes "x")) (codes "x"))
other_unread (command, is, rose, next) = by_next (of_parse (λ c. IsNext (Some (holding [] [])) c (codes "x")) command is next)
  where
    by_next : IsNext (Some (holding [] [])) parsing (codes "x") → ⊥
    by_next (inl e) = omega (arith, ap first e)
    by_next (inr (e, h)) = omega (arith, ap first e)
