-- Words have an answer where the files that they name are there: to say that no outcome is one leads to a contradiction.
-- Where something is not decided, both its cases are used up: one shows that it can't be, the other takes that.
use Rattle.std.proofs.Common.{◌≡◌, refl, subst, ◌⊎◌, ℕ, zero, suc, ◌<◌, ◌≤◌, List, length, Option, arith}
use mathlib.Core.Logic.{inl, inr}
use Rattle.std.specs.Str.Lossy.{utf8_valid_len}
use Rattle.ix_model.specs.declared.grammar.Grammar.{Grammar}
use Rattle.ix_model.specs.declared.state.State.{State}
use Rattle.ix_model.specs.declared.state.State.TheVariants.{Single, Ambiguous as Several}
use Rattle.ix_model.specs.Spelling.Spells.{Spells}
use Rattle.ix_model.specs.Spelling.Depth.{depth}
use Rattle.ix_model.specs.Grammars.Names.{HasUniqueNames}
use Rattle.ix_model.specs.Grammars.Breach.{Fault, LeastBreach}
use Rattle.ix_model.specs.Derivations.Trees.{Tree}
use Rattle.ix_model.specs.Derivations.Derives.{IsDerivation}
use Rattle.ix_model.specs.Derivations.Order.{First}
use Rattle.ix_model.specs.Derivations.Offset.{IsReached, Offset}
use Rattle.ix_model.specs.Documents.Gives.{Givens, gives_root}
use Rattle.ix_model.specs.Documents.Xml.{xml}
use Rattle.ix_model.specs.Documents.Dyn.{Refusal, Dyn, HasNoRefusal}
use Rattle.ix_model.specs.Answers.Decoding.{decoded}
use Rattle.ix_model.specs.Answers.Sample.{sample_text}
use Rattle.ix_model.specs.Answers.Places.{line_of, column_of}
use Rattle.ix_model.specs.Answers.Limits.{grammar_limit, text_limit, depth_limit}
use Rattle.ix_model.specs.Answers.CommandLine.{Command, parse, check, sample, IsCommand, HasNoForm}
use Rattle.ix_model.specs.Answers.Outcome.{Outcome, no_form, grammar_too_long, grammar_not_utf8, no_grammar, too_deep, not_conforming, conforms, text_too_long, text_not_utf8, failed, refused, document, summarised}
use Rattle.ix_model.specs.Answers.Answer.{IsText, HoldsConforming, GrammarRefused, Parsed, TextAnswered, Measured, CommandAnswered, Answered}
use Rattle.ix_conformance_laws.specs.Laws.{IsFaultless}
use Rattle.ix_conformance_laws.proofs.Judging.{judged, unrefused, faultless}
use Rattle.ix_tree_laws.proofs.Choice.{first_exists}
use Rattle.ix_edge.proofs.Decoded.{length-decoded, scalars_decoded}
use Rattle.ix_figure_laws.proofs.FiguresThere.{figures_are_there}
use Rattle.ix_sample_laws.specs.SampleRules.{sample_rules}
use Rattle.ix_sample_laws.specs.SamplePlan.{sample_plan}
use Rattle.ix_sample_laws.proofs.SampleConforms.{sample_conforms, unique_names}
use Rattle.ix_sample_laws.proofs.SamplePlanned.{sample_planned}
use Rattle.ix_answer_laws.specs.AnswerLaws.{HasFilesOf, AreHeld}
use Rattle.ix_answer_laws.proofs.Commands.{command_or_none}
use Rattle.ix_answer_laws.proofs.Firsts.{in_order}
use Rattle.ix_answer_laws.proofs.Refusals.{refusal_or_none}

within_or_above : (limit n : ℕ) → (n ≤ limit) ⊎ (limit < n)
within_or_above limit n = by_order (in_order limit n)
  where
    by_order : (limit < n) ⊎ ((limit ≡ n) ⊎ (n < limit)) → (n ≤ limit) ⊎ (limit < n)
    by_order (inl l) = inr l
    by_order (inr (inl e)) = inl (omega (arith, e))
    by_order (inr (inr l)) = inl (omega (arith, l))

-- ---- a text has an offset

module _ (g : Grammar) (s : List ℕ) where
  -- what matches ends within the text
  reached_within : (j : ℕ) → IsReached g s j → j ≤ length s
  reached_within j (t, i, entered, inl (tmark, chars, e, stands)) = stands.1
  reached_within j (t, i, entered, inr (tmark, exclude, members, c, e, within, stands)) = stands.1

  offset_up_to : (most : ℕ) → ((j : ℕ) → IsReached g s j → j ≤ most) → ¬ ((o : ℕ) → ¬ (Offset g s o))
  offset_up_to zero all none = none zero (inr refl, all)
  offset_up_to (suc most) all none = offset_up_to most less none
    where
      not_the_most : ¬ (IsReached g s (suc most))
      not_the_most h = none (suc most) (inl h, all)

      less : (j : ℕ) → IsReached g s j → j ≤ most
      less j h = by_order (within_or_above most j)
        where
          by_order : (j ≤ most) ⊎ (most < j) → j ≤ most
          by_order (inl l) = l
          by_order (inr l) = absurd (not_the_most (subst (IsReached g s) (omega (arith, l, all j h)) h))

  offset_there : ¬ ((o : ℕ) → ¬ (Offset g s o))
  offset_there = offset_up_to (length s) reached_within

  -- ---- a text under a grammar with unique names has an outcome

  parsed_there : HasUniqueNames g → ¬ ((o : Outcome) → ¬ (Parsed g s o))
  parsed_there unique none = offset_there (λ o h. none (failed o (line_of s o) (column_of s o)) (no_tree, h, refl, refl))
    where
      of_first : (d : Tree) → First g s d → ((code : Refusal) × Dyn (gives_root s g d) code) ⊎ HasNoRefusal (gives_root s g d) → ⊥
      of_first d h (inl (code, dyn)) = none (refused code) (d, h, dyn)
      of_first d h (inr fine) = none (document (gives_root s g d) Single) (d, h, refl, fine, λ several. none (document (gives_root s g d) Several) (d, h, refl, fine, several))

      no_tree : (d : Tree) → ¬ (IsDerivation g s d)
      no_tree d h = let (e, first) = first_exists g s d unique h in of_first e first (refusal_or_none (gives_root s g e))

-- ---- bytes of a text have an outcome

module _ (g : Grammar) (bytes : List ℕ) where
  of_parsed : (o : Outcome) → IsText text_limit bytes → Parsed g (decoded bytes) o → TextAnswered g bytes o
  of_parsed text_too_long t h = absurd h
  of_parsed (text_not_utf8 valid) t h = absurd h
  of_parsed o t h = (t, h)

  pub text_there : HasUniqueNames g → ¬ ((o : Outcome) → ¬ (TextAnswered g bytes o))
  text_there unique none = by_length (within_or_above text_limit (length bytes))
    where
      by_length : (length bytes ≤ text_limit) ⊎ (text_limit < length bytes) → ⊥
      by_length (inr l) = none text_too_long l
      by_length (inl l) = none (text_not_utf8 (utf8_valid_len bytes)) (l, (λ u. parsed_there g (decoded bytes) unique (λ o h. none o (of_parsed o (l, u) h))), refl)

-- ---- bytes of a grammar are refused, or hold a conforming one

grammar_there : (bytes : List ℕ) → ((o : Outcome) → ¬ (GrammarRefused bytes o)) → ¬ ((g : Grammar) → ¬ (HoldsConforming bytes g))
grammar_there bytes taken none = by_length (within_or_above grammar_limit (length bytes))
  where
    judge : (g : Grammar) → IsText grammar_limit bytes → Spells (decoded bytes) g → depth g ≤ depth_limit → ((fault : Fault) × LeastBreach g fault) ⊎ IsFaultless g → ⊥
    judge g t s d (inl (fault, least)) = taken (not_conforming fault) (g, (t, s, d), least)
    judge g t s d (inr h) = none g ((t, s, d), unrefused g h)

    by_depth : (g : Grammar) → IsText grammar_limit bytes → Spells (decoded bytes) g → (depth g ≤ depth_limit) ⊎ (depth_limit < depth g) → ⊥
    by_depth g t s (inl d) = judge g t s d (judged g)
    by_depth g t s (inr d) = taken too_deep (t, g, s, d)

    by_length : (length bytes ≤ grammar_limit) ⊎ (grammar_limit < length bytes) → ⊥
    by_length (inr l) = taken grammar_too_long l
    by_length (inl l) = taken (grammar_not_utf8 (utf8_valid_len bytes)) (l, (λ u. taken no_grammar ((l, u), λ g s. by_depth g (l, u) s (within_or_above depth_limit (depth g)))), refl)

-- ---- a text whose figures are asked for has an outcome

module _ (bytes : List ℕ) where
  abbrev s : List ℕ
  s = decoded bytes

  -- a document of the text has figures
  summary_there : (gs : Givens) (state : State) → TextAnswered sample_rules bytes (document gs state) → IsText text_limit bytes → ¬ ((o : Outcome) → ¬ (Measured sample_rules bytes o))
  summary_there gs state h (l, u) none =
      let planned = sample_planned s (scalars_decoded bytes u) (omega (arith, l, length-decoded bytes u)) in
      figures_are_there (sample_plan s) planned.1 (λ counts c.
      none (summarised (length bytes) counts (length (xml gs state))) (gs, state, h, sample_plan s, record { plan_of = planned.0; planned = planned.1; text = refl; counts_of = c }, refl, refl))

  of_answered : (o : Outcome) → TextAnswered sample_rules bytes o → ((p : Outcome) → ¬ (Measured sample_rules bytes p)) → ⊥
  of_answered (document gs Single) h none = summary_there gs Single h h.0 none
  of_answered (document gs Several) h none = summary_there gs Several h h.0 none
  of_answered (summarised text counts output) h none = h.1
  of_answered o h none = none o h

-- ---- a command has an outcome, and so have words

module _ (map : List ℕ → Option (List ℕ)) where
  command_there : (command : Command) → HasFilesOf map command → ¬ ((o : Outcome) → ¬ (CommandAnswered map command o))
  command_there (check name) (bytes, m) none =
      grammar_there bytes (λ o h. none o (bytes, m, inl h)) (λ g h. none conforms (bytes, m, inr (g, h, refl)))
  command_there (parse grammar text workers) ((bytes, m), (s, n)) none =
      grammar_there bytes (λ o h. none o (bytes, m, inl h)) (λ g h. text_there g s (faultless g h.1).names (λ o t. none o (bytes, m, inr (g, h, s, n, t))))
  command_there (sample lines workers) _ none =
      text_there sample_rules (sample_text lines) unique_names (λ o h. of_answered (sample_text lines) o h (λ p k. none p (sample_rules, sample_conforms, k)))

pub answer_is_there : (words : List (List ℕ)) (map : List ℕ → Option (List ℕ)) → AreHeld words map → ¬ ((o : Outcome) → ¬ (Answered words map o))
answer_is_there words map held none = by_form (command_or_none words)
  where
    by_form : ((command : Command) × IsCommand words command) ⊎ HasNoForm words → ⊥
    by_form (inl (command, c)) = command_there map command (held command c) (λ o h. none o (inr (command, c, h)))
    by_form (inr n) = none no_form (inl (n, refl))
