use Rattle.std.proofs.Common.{◌≡◌, take}
use Rattle.std.specs.List.{filter_map}
use Rattle.ix_cluster.specs.Banks.{facts_of, recorded_sub}
use Rattle.ix_cluster.proofs.banks.Banks.all_subs.Given as goal

abbrev pub invariant-loop-bank : goal.invariant-loop-bank
invariant-loop-bank l = l.subs.items ≡ filter_map recorded_sub (facts_of (take l.bank-index l.self.banks.items))
