use Rattle.std.proofs.Common.{refl, [], ◌∷◌, codes, arith}
use Rattle.ix_answer_laws.proofs.Commands.{of_read}
use Rattle.ix_worked_examples.proofs.commands.numbers_of_lines.Goals as goal

pub returns-clause-least : goal.returns-clause-least
returns-clause-least c = (codes "sample", (codes "1" ∷ []), (codes "1" ∷ []), ([]), refl, of_read _ _ _ refl, (refl, codes "1", refl, ((omega arith, (omega arith, tt)), omega arith, refl, omega arith, omega arith), refl))

pub returns-clause-zeros : goal.returns-clause-zeros
returns-clause-zeros c = (codes "sample", (codes "00001" ∷ []), (codes "00001" ∷ []), ([]), refl, of_read _ _ _ refl, (refl, codes "00001", refl, ((omega arith, (omega arith, (omega arith, (omega arith, (omega arith, (omega arith, tt)))))), omega arith, refl, omega arith, omega arith), refl))

pub returns-clause-most : goal.returns-clause-most
returns-clause-most c = (codes "sample", (codes "10000" ∷ []), (codes "10000" ∷ []), ([]), refl, of_read _ _ _ refl, (refl, codes "10000", refl, ((omega arith, (omega arith, (omega arith, (omega arith, (omega arith, (omega arith, tt)))))), omega arith, refl, omega arith, omega arith), refl))

pub returns-clause-below_most : goal.returns-clause-below_most
returns-clause-below_most c = (codes "sample", (codes "09999" ∷ []), (codes "09999" ∷ []), ([]), refl, of_read _ _ _ refl, (refl, codes "09999", refl, ((omega arith, (omega arith, (omega arith, (omega arith, (omega arith, (omega arith, tt)))))), omega arith, refl, omega arith, omega arith), refl))
