use Rattle.std.proofs.Common.{◌≡◌, refl, codes, arith}
use Rattle.ix_worked_examples.proofs.places.unique_names.Goals as goal

pub returns-clause-two : goal.returns-clause-two
returns-clause-two c = λ unique. let x : 0 ≡ 1 = unique 0 1 (codes "S") (_, refl, refl) (_, refl, refl) in omega (arith, x)
