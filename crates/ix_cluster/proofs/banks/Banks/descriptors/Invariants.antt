use Rattle.std.proofs.Common.{◌≡◌, ◌≤◌, ◌*◌, take}
use Rattle.std.specs.List.{count_by}
use Rattle.ix_cluster.specs.declared.limits.TheConstants.{FACT_LIMIT}
use Rattle.ix_cluster.specs.Banks.{facts_of, is_descriptor}
use Rattle.ix_cluster.proofs.banks.Banks.descriptors.Given as goal

abbrev pub invariant-loop-bank : goal.invariant-loop-bank
invariant-loop-bank l = record {
  count : l.count ≡ count_by is_descriptor (facts_of (take l.bank-index l.self.banks.items));
  small : l.count ≤ l.bank-index * FACT_LIMIT;
}
