use Rattle.std.proofs.Common.{◌≡◌, map, Some}
use Rattle.ix_rows.proofs.slots.filled.Given as goal

abbrev pub invariant-loop-value : goal.invariant-loop-value
invariant-loop-value g l = l.slots.items ≡ map Some l.yielded
