use Rattle.std.proofs.Common.{refl, codes, arith}
use Rattle.ix_worked_examples.proofs.places.first_rule_of_a_name.Goals as goal

pub returns-clause-not_second : goal.returns-clause-not_second
returns-clause-not_second c = λ h. h.2 0 (codes "S") (omega arith) refl refl
