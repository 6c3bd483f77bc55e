use Rattle.std.proofs.Common.{◌≡◌, ℕ, map, Some, slice_get}
use Rattle.std.specs.List.{range_with_len}
use Rattle.ix_cluster.specs.Banks.{opening_bank}
use Rattle.ix_cluster.specs.Seen.{Bank}
use Rattle.ix_cluster.specs.Sound.{IsSoundBank}
use Rattle.ix_cluster.proofs.banks.Banks.begin.Given as goal

abbrev pub invariant-loop-m : goal.invariant-loop-m
invariant-loop-m l = record {
  opening : l.banks.items ≡ map (opening_bank l.plan l.count) (range_with_len 0 l.m);
  sound : (i : ℕ) (bank : Bank) → slice_get l.banks.items i ≡ Some bank → IsSoundBank l.plan l.count i bank;
}
