use Rattle.std.proofs.Common.{refl, subst, ℕ, List, [], ◌∷◌, Option, None, codes, arith}
use mathlib.Core.Logic.{inl, inr}
use Rattle.ix_model.specs.Answers.CommandLine.{Command, parse, check, sample, IsCommand}
use Rattle.ix_model.specs.Answers.Outcome.{Outcome}
use Rattle.ix_model.specs.Answers.Answer.{CommandAnswered, Answered}
use Rattle.ix_examples.specs.SmallAnswers.{check_g}
use Rattle.ix_answer_laws.specs.AnswerLaws.{HasFilesOf, AreHeld}
use Rattle.ix_answer_laws.proofs.Commands.{of_read, command_is_one, no_words}
use Rattle.ix_worked_examples.proofs.SmallAnswers.{checks_g, parses_g_t}
use Rattle.ix_worked_examples.proofs.answers.held_files.Goals as goal

-- the files of the one command
held : (words : List (List ℕ)) (map : List ℕ → Option (List ℕ)) (command : Command) → IsCommand words command → HasFilesOf map command → AreHeld words map
held words map command c h other d = subst (HasFilesOf map) (command_is_one words command other c d) h

no_answer : (outcome : Outcome) → ¬ (Answered check_g (λ name. None) outcome)
no_answer outcome (inl (n, e)) = n (check (codes "g")) checks_g
no_answer outcome (inr (command, c, h)) =
    let k = subst (λ x. CommandAnswered (λ name. None) x outcome) (command_is_one check_g command (check (codes "g")) c checks_g) h in
    cc k.1

pub returns-clause-both : goal.returns-clause-both
returns-clause-both c = λ grammar text. held _ _ (parse (codes "g") (codes "t") 2) parses_g_t ((grammar, refl), (text, refl))

pub returns-clause-no_text : goal.returns-clause-no_text
returns-clause-no_text c = λ grammar h. let k = (h (parse (codes "g") (codes "t") 2) parses_g_t).1 in cc k.1

pub returns-clause-grammar : goal.returns-clause-grammar
returns-clause-grammar c = λ grammar. held _ _ (check (codes "g")) checks_g (grammar, refl)

pub returns-clause-no_grammar : goal.returns-clause-no_grammar
returns-clause-no_grammar c = λ h. let k = h (check (codes "g")) checks_g in cc k.1

pub returns-clause-sample : goal.returns-clause-sample
returns-clause-sample c = held _ _ (sample 5 2) (codes "sample", codes "5" ∷ [], codes "5" ∷ [], [], refl, of_read _ _ _ refl, (refl, codes "5", refl, ((omega arith, (omega arith, tt)), omega arith, refl, omega arith, omega arith), refl)) tt

pub returns-clause-no_words : goal.returns-clause-no_words
returns-clause-no_words c = λ command h. absurd (no_words command h)

pub returns-clause-no_answer : goal.returns-clause-no_answer
returns-clause-no_answer c = no_answer
