use Rattle.std.proofs.Common.{◌≡◌, take}
use Rattle.std.specs.List.{fold}
use Rattle.ix_cluster.specs.Banks.{facts_of, later_of}
use Rattle.ix_cluster.proofs.banks.Banks.furthest.Given as goal

abbrev pub invariant-loop-bank : goal.invariant-loop-bank
invariant-loop-bank l = l.furthest ≡ fold later_of 0 (facts_of (take l.bank-index l.self.banks.items))
