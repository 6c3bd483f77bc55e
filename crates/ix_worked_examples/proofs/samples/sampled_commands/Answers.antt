use Rattle.std.proofs.Common.{ℕ, List, Option}
use mathlib.Core.Logic.{inl, inr}
use Rattle.ix_model.specs.declared.counts.Counts.{Counts}
use Rattle.ix_model.specs.Answers.CommandLine.{check, parse}
use Rattle.ix_model.specs.Answers.Outcome.{summarised}
use Rattle.ix_model.specs.Answers.Answer.{CommandAnswered}
use Rattle.ix_worked_examples.proofs.samples.sampled_commands.Goals as goal

module _ (map : List ℕ → Option (List ℕ)) (grammar : List ℕ) (bytes output : ℕ) (counts : Counts) where
  not_of_parse : (text : List ℕ) (workers : ℕ) → ¬ (CommandAnswered map (parse grammar text workers) (summarised bytes counts output))
  not_of_parse text workers (held, m, inl h) = h
  not_of_parse text workers (held, m, inr (g, k, s, e, h)) = h.1

  not_of_check : ¬ (CommandAnswered map (check grammar) (summarised bytes counts output))
  not_of_check (held, m, inl h) = h
  not_of_check (held, m, inr (g, k, e)) = cc e

pub returns-clause-any_files : goal.returns-clause-any_files
returns-clause-any_files c = λ map other lines outcome h. h

pub returns-clause-no_document : goal.returns-clause-no_document
returns-clause-no_document c = λ map lines workers gs state h. h.2

pub returns-clause-not_checked : goal.returns-clause-not_checked
returns-clause-not_checked c = λ map lines workers h. h.2.1

pub returns-clause-no_summary_of_parse : goal.returns-clause-no_summary_of_parse
returns-clause-no_summary_of_parse c = λ map grammar text workers bytes output counts. not_of_parse map grammar bytes output counts text workers

pub returns-clause-no_summary_of_check : goal.returns-clause-no_summary_of_check
returns-clause-no_summary_of_check c = λ map grammar bytes output counts. not_of_check map grammar bytes output counts
