use Rattle.std.proofs.Common.{refl, [], ◌∷◌, codes}
use Rattle.ix_model.specs.Answers.CommandLine.{Command, parse, check, sample, Asks}
use Rattle.ix_answer_laws.proofs.Commands.{of_read, no_workers, parts_are}
use Rattle.ix_worked_examples.proofs.commands.repeated_workers.Goals as goal

not_asked : (command : Command) → ¬ (Asks (codes "sample") (codes "7" ∷ []) (codes "2" ∷ codes "2" ∷ []) command)
not_asked (parse grammar text workers) a = cc a.0
not_asked (check grammar) a = cc a.0
not_asked (sample lines workers) a = a.4

pub returns-clause-second_is_value : goal.returns-clause-second_is_value
returns-clause-second_is_value c = (codes "parse", (codes "--" ∷ codes "--workers=2" ∷ codes "--workers=2" ∷ []), (codes "--workers=2" ∷ codes "--workers=2" ∷ []), ([]), refl, of_read _ _ _ refl, (refl, refl, refl))

pub returns-clause-apart : goal.returns-clause-apart
returns-clause-apart c = no_workers (codes "--workers" ∷ codes "2" ∷ codes "g" ∷ codes "t" ∷ codes "--workers" ∷ codes "2" ∷ []) (codes "g" ∷ codes "t" ∷ []) (codes "2" ∷ codes "2" ∷ []) refl (λ n w. w)

pub returns-clause-mixed : goal.returns-clause-mixed
returns-clause-mixed c = no_workers (codes "--workers=2" ∷ codes "g" ∷ codes "t" ∷ codes "--workers" ∷ codes "3" ∷ []) (codes "g" ∷ codes "t" ∷ []) (codes "2" ∷ codes "3" ∷ []) refl (λ n w. w)

pub returns-clause-for_sample : goal.returns-clause-for_sample
returns-clause-for_sample c = λ command h. not_asked command (parts_are (codes "sample") (codes "7" ∷ codes "--workers=2" ∷ codes "--workers=2" ∷ []) (codes "7" ∷ []) (codes "2" ∷ codes "2" ∷ []) command refl h)
