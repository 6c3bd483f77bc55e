use Rattle.std.proofs.Common.{ℕ, List, length, slice_index_or, ap, arith}
use Rattle.ix_cluster.specs.Lists.{cluster}
use Rattle.ix_cluster.proofs.laws.bank_keeps_lists_of_its_log.Goals as goal

pub returns-clause-one_missing : goal.returns-clause-one_missing
returns-clause-one_missing c = λ h. omega (arith, ap length (h.ends_listed (cluster 0 1)))

pub returns-clause-other_order : goal.returns-clause-other_order
returns-clause-other_order c = λ h. let first = ap (λ (xs : List ℕ). slice_index_or xs 0 0) (h.ends_listed (cluster 0 0)) in omega (arith, first)
