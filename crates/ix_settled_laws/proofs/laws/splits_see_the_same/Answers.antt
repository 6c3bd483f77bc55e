use Rattle.std.proofs.Common.{ap}
use Rattle.ix_settled_laws.proofs.laws.splits_see_the_same.Goals as goal

pub returns : goal.returns
returns c = λ root left right l r. (ap (λ v. record { known = v.known; own = v.own }) l, ap (λ v. v.begun) l, ap (λ v. record { known = v.known; own = v.own }) r)
