use Rattle.std.proofs.Common.{refl, [], ◌∷◌, codes}
use Rattle.ix_answer_laws.proofs.Commands.{of_read}
use Rattle.ix_worked_examples.proofs.commands.end_of_options.Goals as goal

pub returns-clause-before_last : goal.returns-clause-before_last
returns-clause-before_last c = (codes "parse", (codes "g" ∷ codes "--" ∷ codes "t" ∷ []), (codes "g" ∷ codes "t" ∷ []), [], refl, of_read _ _ _ refl, (refl, refl, refl))

pub returns-clause-options_as_names : goal.returns-clause-options_as_names
returns-clause-options_as_names c = (codes "parse", (codes "--" ∷ codes "--workers" ∷ codes "--" ∷ []), (codes "--workers" ∷ codes "--" ∷ []), [], refl, of_read _ _ _ refl, (refl, refl, refl))

pub returns-clause-as_value : goal.returns-clause-as_value
returns-clause-as_value c = of_read (codes "--workers" ∷ codes "--" ∷ codes "g" ∷ []) (codes "g" ∷ []) (codes "--" ∷ []) refl
