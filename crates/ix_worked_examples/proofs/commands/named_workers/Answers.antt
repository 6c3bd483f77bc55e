use Rattle.std.proofs.Common.{refl, [], ◌∷◌, codes, arith}
use Rattle.ix_answer_laws.proofs.Commands.{of_read, no_workers, unread}
use Rattle.ix_worked_examples.proofs.commands.named_workers.Goals as goal

pub returns-clause-joined : goal.returns-clause-joined
returns-clause-joined c = (codes "parse", (codes "g" ∷ codes "t" ∷ codes "--workers=8" ∷ []), (codes "g" ∷ codes "t" ∷ []), (codes "8" ∷ []), refl, of_read _ _ _ refl, (refl, refl, ((omega arith, (omega arith, tt)), omega arith, refl, omega arith, omega arith)))

pub returns-clause-apart : goal.returns-clause-apart
returns-clause-apart c = (codes "parse", (codes "--workers" ∷ codes "008" ∷ codes "g" ∷ codes "t" ∷ []), (codes "g" ∷ codes "t" ∷ []), (codes "008" ∷ []), refl, of_read _ _ _ refl, (refl, refl, ((omega arith, (omega arith, (omega arith, (omega arith, tt)))), omega arith, refl, omega arith, omega arith)))

pub returns-clause-most : goal.returns-clause-most
returns-clause-most c = (codes "sample", (codes "--workers" ∷ codes "64" ∷ codes "1" ∷ []), (codes "1" ∷ []), (codes "64" ∷ []), refl, of_read _ _ _ refl, (refl, codes "1", refl, ((omega arith, (omega arith, tt)), omega arith, refl, omega arith, omega arith), ((omega arith, (omega arith, (omega arith, tt))), omega arith, refl, omega arith, omega arith)))

pub returns-clause-none : goal.returns-clause-none
returns-clause-none c = no_workers (codes "g" ∷ codes "t" ∷ codes "--workers" ∷ codes "0" ∷ []) (codes "g" ∷ codes "t" ∷ []) (codes "0" ∷ []) refl (λ n w. omega (arith, w.2, w.3))

pub returns-clause-too_many : goal.returns-clause-too_many
returns-clause-too_many c = no_workers (codes "g" ∷ codes "t" ∷ codes "--workers" ∷ codes "65" ∷ []) (codes "g" ∷ codes "t" ∷ []) (codes "65" ∷ []) refl (λ n w. omega (arith, w.2, w.4))

pub returns-clause-sign : goal.returns-clause-sign
returns-clause-sign c = no_workers (codes "g" ∷ codes "t" ∷ codes "--workers" ∷ codes "+5" ∷ []) (codes "g" ∷ codes "t" ∷ []) (codes "+5" ∷ []) refl (λ n w. omega (arith, w.0.1.0))

pub returns-clause-four_digits : goal.returns-clause-four_digits
returns-clause-four_digits c = no_workers (codes "g" ∷ codes "t" ∷ codes "--workers=0008" ∷ []) (codes "g" ∷ codes "t" ∷ []) (codes "0008" ∷ []) refl (λ n w. omega (arith, w.1))

pub returns-clause-empty : goal.returns-clause-empty
returns-clause-empty c = no_workers (codes "g" ∷ codes "t" ∷ codes "--workers=" ∷ []) (codes "g" ∷ codes "t" ∷ []) ([] ∷ []) refl (λ n w. omega (arith, w.0.0))

pub returns-clause-no_value : goal.returns-clause-no_value
returns-clause-no_value c = unread (codes "parse") (codes "g" ∷ codes "t" ∷ codes "--workers" ∷ []) refl
