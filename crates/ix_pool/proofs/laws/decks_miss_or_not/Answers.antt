use Rattle.std.proofs.Common.{◌≡◌, ◌<◌, arith}
use Rattle.ix_pool.proofs.laws.decks_miss_or_not.Goals as goal

pub returns-clause-not_asked : goal.returns-clause-not_asked
returns-clause-not_asked c = λ h. let n : 1 < 2 = omega arith in let e : 5 ≡ 6 = h 0 n in omega (arith, e)

pub returns-clause-twice : goal.returns-clause-twice
returns-clause-twice c = λ h. let n : 1 < 2 = omega arith in let e : 7 ≡ 6 = h 0 n in omega (arith, e)

pub returns-clause-other : goal.returns-clause-other
returns-clause-other c = λ h. let n : 1 < 2 = omega arith in let e : 5 ≡ 6 = h 0 n in omega (arith, e)
