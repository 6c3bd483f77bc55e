use Rattle.std.proofs.Common.{◌≡◌, ◌++◌, take}
use Rattle.std.specs.List.{filter_map}
use Rattle.ix_cluster.specs.Banks.{recorded_sub}
use Rattle.ix_cluster.proofs.banks.add_subs.Given as goal

abbrev pub invariant-loop-fact : goal.invariant-loop-fact
invariant-loop-fact l = l.subs.items ≡ l.initial.subs.items ++ filter_map recorded_sub (take l.fact-index l.facts)
