use Rattle.std.proofs.Common.{arith, length, ap}
use Rattle.ix_cluster.specs.Lists.{cluster}
use Rattle.ix_cluster.proofs.laws.lists_change_at_one_cluster.Goals as goal

pub returns-clause-elsewhere : goal.returns-clause-elsewhere
returns-clause-elsewhere c = λ h. omega (arith, ap length (h (cluster 0 0)))

pub returns-clause-nothing : goal.returns-clause-nothing
returns-clause-nothing c = λ h. omega (arith, ap length (h (cluster 0 0)))

pub returns-clause-changes : goal.returns-clause-changes
returns-clause-changes c = λ h. omega (arith, ap length (h (cluster 0 0)))
