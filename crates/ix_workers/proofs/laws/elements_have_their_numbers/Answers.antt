use Rattle.std.proofs.Common.{refl, arith}
use Rattle.ix_workers.proofs.laws.elements_have_their_numbers.Goals as goal

pub returns-clause-one_has_it_not : goal.returns-clause-one_has_it_not
returns-clause-one_has_it_not c = λ each. let e = each 1 0 refl in omega (arith, e)
