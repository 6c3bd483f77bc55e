-- What small words ask for, and the files that they name.
use Rattle.std.proofs.Common.{◌≡◌, ◌⊎◌, refl, ap, subst, ℕ, List, [], ◌∷◌, codes, arith}
use mathlib.Core.Logic.{inl, inr}
use Rattle.ix_model.specs.Answers.CommandLine.{Command, parse, check, sample, Asks, IsCommand}
use Rattle.ix_examples.specs.SmallAnswers.{check_g, parse_g_t}
use Rattle.ix_examples.proofs.SmallTexts.{first}
use Rattle.ix_worked_examples.proofs.SmallAnswers.{checks_g, parses_g_t}
use Rattle.ix_answer_laws.proofs.Commands.{of_read, parts_are, command_is_one}
use Rattle.ix_cli.specs.Examples.{sample_1}
use Rattle.ix_cli.specs.Named.{HasCommand, ReadsGrammar, ReadsText, Names}

pub samples_1 : IsCommand sample_1 (sample 1 2)
samples_1 = (codes "sample", codes "1" ∷ [], codes "1" ∷ [], [], refl, of_read _ _ _ refl, (refl, codes "1", refl, ((omega arith, (omega arith, tt)), omega arith, refl, omega arith, omega arith), refl))

-- what is true of a command that these words ask for is true of theirs
module _ (P : Command → Type 0) (command : Command) where
  pub of_parse : IsCommand parse_g_t command → P command → P (parse (codes "g") (codes "t") 2)
  of_parse is p = subst P (command_is_one parse_g_t command _ is parses_g_t) p

  pub of_check : IsCommand check_g command → P command → P (check (codes "g"))
  of_check is p = subst P (command_is_one check_g command _ is checks_g) p

  pub of_sample : IsCommand sample_1 command → P command → P (sample 1 2)
  of_sample is p = subst P (command_is_one sample_1 command _ is samples_1) p

one_name_asked : (command : Command) → ¬ (Asks (codes "parse") (codes "g" ∷ []) [] command)
one_name_asked (parse grammar text workers) a = absurd (cc a.1)
one_name_asked (check grammar) a = omega (arith, ap first a.0)
one_name_asked (sample lines workers) a = omega (arith, ap first a.0)

pub one_name_none : ¬ (HasCommand (codes "parse" ∷ codes "g" ∷ []))
one_name_none (command, is) = one_name_asked command (parts_are (codes "parse") (codes "g" ∷ []) (codes "g" ∷ []) [] command refl is)

module _ (name : List ℕ) where
  abbrev ReadsFile : Command → Type 0
  ReadsFile command = ReadsGrammar command name ⊎ ReadsText command name

  pub named_by_parse : Names parse_g_t name → (name ≡ codes "g") ⊎ (name ≡ codes "t")
  named_by_parse (command, is, reads) = of_parse ReadsFile command is reads

  pub named_by_check : Names check_g name → name ≡ codes "g"
  named_by_check (command, is, reads) = by_file (of_check ReadsFile command is reads)
    where
      by_file : (name ≡ codes "g") ⊎ ⊥ → name ≡ codes "g"
      by_file (inl e) = e
      by_file (inr h) = absurd h

  pub named_by_sample : ¬ (Names sample_1 name)
  named_by_sample (command, is, reads) = by_file (of_sample ReadsFile command is reads)
    where
      by_file : ⊥ ⊎ ⊥ → ⊥
      by_file (inl h) = h
      by_file (inr h) = h
