use Rattle.std.proofs.Common.{◌≡◌, refl, codes, arith}
use Rattle.ix_worked_examples.proofs.Rivals.{one_derives, other_derives, rivals_have_no_first}
use Rattle.ix_worked_examples.proofs.choice.names_have_to_be_unique.Goals as goal

pub returns-clause-same_name : goal.returns-clause-same_name
returns-clause-same_name c = λ unique. let x : 1 ≡ 2 = unique 1 2 (codes "A") (_, refl, refl) (_, refl, refl) in omega (arith, x)

pub returns-clause-one : goal.returns-clause-one
returns-clause-one c = one_derives

pub returns-clause-other : goal.returns-clause-other
returns-clause-other c = other_derives

pub returns-clause-no_first : goal.returns-clause-no_first
returns-clause-no_first c = rivals_have_no_first
