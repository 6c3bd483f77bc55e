use Rattle.std.proofs.Common.{◌≡◌, ◌<◌, arith}
use Rattle.ix_pool.proofs.laws.decks_are_untouched_or_not.Goals as goal

pub returns-clause-touched : goal.returns-clause-touched
returns-clause-touched c = λ h. let n : 1 < 2 = omega arith in let e : 6 ≡ 5 = h 0 n in omega (arith, e)
