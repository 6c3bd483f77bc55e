-- The worked examples of `check`.
use Rattle.std.proofs.Common.{◌≡◌, refl, sym, subst, ℕ, List, [], ◌∷◌, Some, codes, arith}
use mathlib.Core.Logic.{inl, inr}
use lib.Utf8.{encode}
use Rattle.std.specs.Str.{chars, is_utf8}
use Rattle.std.specs.Str.Lossy.{utf8_valid_len}
use Rattle.ix_model.specs.declared.grammar.Grammar.{Grammar}
use Rattle.ix_model.specs.Answers.Answer.{CommandAnswered}
use Rattle.ix_model.specs.Answers.CommandLine.{Command, check}
use Rattle.ix_model.specs.Answers.Outcome.{Outcome, conforms, no_grammar, grammar_not_utf8}
use Rattle.ix_edge.specs.Told.{Told, held}
use Rattle.ix_examples.specs.SmallAnswers.{check_g, parse_g_t, one_way}
use Rattle.ix_examples.specs.SmallGrammars.{only_a}
use Rattle.ix_worked_examples.proofs.SmallAnswers.{checks_g, parses_g_t, not_utf8}
use Rattle.ix_answer_laws.proofs.Commands.{command_is_one}
use Rattle.ix_answer_laws.proofs.OneAnswer.{command_answered_once}
use Rattle.ix_cli.specs.Causes.{Parses, OfText, IsChecked}
use Rattle.ix_cli.specs.Examples.{holding, without_text}
use Rattle.ix_cli.specs.Table.{IsReply}
use Rattle.ix_cli.proofs.Options.{some_is}
use Rattle.ix_cli.proofs.SmallReplies.{parsing, holds_one_way, nothing_refused, none_held}
use Rattle.ix_cli.proofs.SmallWords.{of_check}

abbrev pub checking : Command
checking = check (codes "g")

module _ (text : List ℕ) where
  pub one_way_checked : CommandAnswered (held (holding one_way text)) checking conforms
  one_way_checked = (one_way, refl, inr (only_a, holds_one_way, refl))

  pub conforms_here : IsReply check_g (holding one_way text) conforms
  conforms_here = inr (checking, checks_g, one_way_checked)

  pub nothing_checked : CommandAnswered (held (holding [] text)) checking no_grammar
  nothing_checked = ([], refl, inl nothing_refused)

  pub none_here : IsReply check_g (holding [] text) no_grammar
  none_here = inr (checking, checks_g, nothing_checked)

-- the text may be missing
pub one_way_alone : CommandAnswered (held (without_text one_way)) checking conforms
one_way_alone = (one_way, refl, inr (only_a, holds_one_way, refl))

pub conforms_alone : IsReply check_g (without_text one_way) conforms
conforms_alone = inr (checking, checks_g, one_way_alone)

pub none_alone : IsReply check_g (without_text []) no_grammar
none_alone = inr (checking, checks_g, ([], refl, inl nothing_refused))

pub no_characters : IsReply check_g (holding (195 ∷ []) (codes "a")) (grammar_not_utf8 0)
unfolding utf8_valid_len is_utf8 chars encode
no_characters = inr (checking, checks_g, (195 ∷ [], refl, inl (omega arith, not_utf8 _ refl, refl)))

-- where the files hold nothing as a grammar there is one answer
pub nothing_else_checked : (text : List ℕ) (o : Outcome) → CommandAnswered (held (holding [] text)) checking o → no_grammar ≡ o
nothing_else_checked text o h = command_answered_once (held (holding [] text)) checking no_grammar o (nothing_checked text) h

-- nothing is true of a text
pub of_no_text : (files : Told) (P : Grammar → List ℕ → Type 0) → ¬ (OfText check_g files P)
of_no_text files P (command, is, g, s, parses, p) = of_check (λ c. Parses files c g s) command is parses

pub not_checked : ¬ (IsChecked check_g (holding [] []))
not_checked (name, bytes, g, is, e, c) =
    let same : check name ≡ checking = command_is_one check_g (check name) checking is checks_g in
    let named : name ≡ codes "g" = cc same in
    none_held bytes (sym (some_is (subst (λ n. held (holding [] []) n ≡ Some bytes) named e))) g c

pub not_by_parse : (files : Told) → ¬ (IsChecked parse_g_t files)
not_by_parse files (name, bytes, g, is, e, c) =
    let same : check name ≡ parsing = command_is_one parse_g_t (check name) parsing is parses_g_t in
    absurd (cc same)
