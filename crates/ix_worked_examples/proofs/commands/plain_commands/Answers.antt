use Rattle.std.proofs.Common.{refl, [], ◌∷◌, codes, arith}
use Rattle.ix_answer_laws.proofs.Commands.{of_read}
use Rattle.ix_worked_examples.proofs.commands.plain_commands.Goals as goal

pub returns-clause-parse : goal.returns-clause-parse
returns-clause-parse c = (codes "parse", (codes "g" ∷ codes "t" ∷ []), (codes "g" ∷ codes "t" ∷ []), [], refl, of_read _ _ _ refl, (refl, refl, refl))

pub returns-clause-check : goal.returns-clause-check
returns-clause-check c = (codes "check", (codes "g" ∷ []), (codes "g" ∷ []), [], refl, of_read _ _ _ refl, (refl, refl, refl))

pub returns-clause-sample : goal.returns-clause-sample
returns-clause-sample c = (codes "sample", (codes "01000" ∷ []), (codes "01000" ∷ []), [], refl, of_read _ _ _ refl, (refl, codes "01000", refl, ((omega arith, (omega arith, (omega arith, (omega arith, (omega arith, (omega arith, tt)))))), omega arith, refl, omega arith, omega arith), refl))

pub returns-clause-standard_input : goal.returns-clause-standard_input
returns-clause-standard_input c = (codes "parse", (codes "-" ∷ [] ∷ []), (codes "-" ∷ [] ∷ []), [], refl, of_read _ _ _ refl, (refl, refl, refl))
