use Rattle.std.proofs.Common.{refl, [], ◌∷◌, codes, arith}
use Rattle.ix_answer_laws.proofs.Commands.{of_read, no_workers}
use Rattle.ix_worked_examples.proofs.commands.numbers_of_workers.Goals as goal

pub returns-clause-least : goal.returns-clause-least
returns-clause-least c = (codes "parse", (codes "g" ∷ codes "t" ∷ codes "--workers=1" ∷ []), (codes "g" ∷ codes "t" ∷ []), (codes "1" ∷ []), refl, of_read _ _ _ refl, (refl, refl, ((omega arith, (omega arith, tt)), omega arith, refl, omega arith, omega arith)))

pub returns-clause-most : goal.returns-clause-most
returns-clause-most c = (codes "parse", (codes "g" ∷ codes "t" ∷ codes "--workers=64" ∷ []), (codes "g" ∷ codes "t" ∷ []), (codes "64" ∷ []), refl, of_read _ _ _ refl, (refl, refl, ((omega arith, (omega arith, (omega arith, tt))), omega arith, refl, omega arith, omega arith)))

pub returns-clause-three_digits : goal.returns-clause-three_digits
returns-clause-three_digits c = (codes "parse", (codes "g" ∷ codes "t" ∷ codes "--workers" ∷ codes "064" ∷ []), (codes "g" ∷ codes "t" ∷ []), (codes "064" ∷ []), refl, of_read _ _ _ refl, (refl, refl, ((omega arith, (omega arith, (omega arith, (omega arith, tt)))), omega arith, refl, omega arith, omega arith)))

pub returns-clause-zeros : goal.returns-clause-zeros
returns-clause-zeros c = (codes "parse", (codes "g" ∷ codes "t" ∷ codes "--workers" ∷ codes "001" ∷ []), (codes "g" ∷ codes "t" ∷ []), (codes "001" ∷ []), refl, of_read _ _ _ refl, (refl, refl, ((omega arith, (omega arith, (omega arith, (omega arith, tt)))), omega arith, refl, omega arith, omega arith)))

pub returns-clause-for_sample : goal.returns-clause-for_sample
returns-clause-for_sample c = (codes "sample", (codes "7" ∷ codes "--workers=3" ∷ []), (codes "7" ∷ []), (codes "3" ∷ []), refl, of_read _ _ _ refl, (refl, codes "7", refl, ((omega arith, (omega arith, tt)), omega arith, refl, omega arith, omega arith), ((omega arith, (omega arith, tt)), omega arith, refl, omega arith, omega arith)))

pub returns-clause-before_operand : goal.returns-clause-before_operand
returns-clause-before_operand c = (codes "sample", (codes "--workers" ∷ codes "3" ∷ codes "7" ∷ []), (codes "7" ∷ []), (codes "3" ∷ []), refl, of_read _ _ _ refl, (refl, codes "7", refl, ((omega arith, (omega arith, tt)), omega arith, refl, omega arith, omega arith), ((omega arith, (omega arith, tt)), omega arith, refl, omega arith, omega arith)))

pub returns-clause-none : goal.returns-clause-none
returns-clause-none c = no_workers (codes "g" ∷ codes "t" ∷ codes "--workers=0" ∷ []) (codes "g" ∷ codes "t" ∷ []) (codes "0" ∷ []) refl (λ n w. omega (arith, w.2, w.3))

pub returns-clause-zeros_alone : goal.returns-clause-zeros_alone
returns-clause-zeros_alone c = no_workers (codes "g" ∷ codes "t" ∷ codes "--workers=000" ∷ []) (codes "g" ∷ codes "t" ∷ []) (codes "000" ∷ []) refl (λ n w. omega (arith, w.2, w.3))

pub returns-clause-too_many : goal.returns-clause-too_many
returns-clause-too_many c = no_workers (codes "g" ∷ codes "t" ∷ codes "--workers=65" ∷ []) (codes "g" ∷ codes "t" ∷ []) (codes "65" ∷ []) refl (λ n w. omega (arith, w.2, w.4))

pub returns-clause-four_digits : goal.returns-clause-four_digits
returns-clause-four_digits c = no_workers (codes "g" ∷ codes "t" ∷ codes "--workers=0064" ∷ []) (codes "g" ∷ codes "t" ∷ []) (codes "0064" ∷ []) refl (λ n w. omega (arith, w.1))

pub returns-clause-four_zeros : goal.returns-clause-four_zeros
returns-clause-four_zeros c = no_workers (codes "g" ∷ codes "t" ∷ codes "--workers" ∷ codes "0001" ∷ []) (codes "g" ∷ codes "t" ∷ []) (codes "0001" ∷ []) refl (λ n w. omega (arith, w.1))

pub returns-clause-slash : goal.returns-clause-slash
returns-clause-slash c = no_workers (codes "g" ∷ codes "t" ∷ codes "--workers" ∷ codes "/" ∷ []) (codes "g" ∷ codes "t" ∷ []) (codes "/" ∷ []) refl (λ n w. omega (arith, w.0.1.0))

pub returns-clause-colon : goal.returns-clause-colon
returns-clause-colon c = no_workers (codes "g" ∷ codes "t" ∷ codes "--workers" ∷ codes "1:" ∷ []) (codes "g" ∷ codes "t" ∷ []) (codes "1:" ∷ []) refl (λ n w. omega (arith, w.0.1.1.0))
