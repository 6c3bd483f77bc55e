use Rattle.std.proofs.Common.{◌≡◌, ◌<◌, arith}
use Rattle.ix_pool.proofs.laws.decks_keep_their_count_or_not.Goals as goal

pub returns-clause-missed : goal.returns-clause-missed
returns-clause-missed c = λ h. let n : 1 < 2 = omega arith in let e : 6 ≡ 5 = h 0 n in omega (arith, e)
