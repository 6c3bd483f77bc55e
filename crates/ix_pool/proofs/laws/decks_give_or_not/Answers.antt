use Rattle.std.proofs.Common.{◌≡◌, ◌<◌, arith}
use Rattle.ix_pool.proofs.laws.decks_give_or_not.Goals as goal

pub returns-clause-own_missed : goal.returns-clause-own_missed
returns-clause-own_missed c = λ h. let n : 1 < 3 = omega arith in let e : 6 ≡ 5 = h.same 0 n in omega (arith, e)
