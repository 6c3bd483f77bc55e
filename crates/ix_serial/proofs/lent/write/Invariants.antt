use Rattle.std.proofs.Common.{◌≡◌, ◌+◌, ◌≤◌, ◌++◌, ℕ, List, [], length, take}
use Rattle.std.specs.List.{concat}
use Rattle.ix_serial.specs.Cursors.{IsWithin, beginning, rest}
use Rattle.ix_serial.specs.Lent.{Goes}
use Rattle.ix_serial.proofs.lent.write.Given as goal

abbrev pub invariant-loop-unit : goal.invariant-loop-unit
invariant-loop-unit g l =
    IsWithin l.plan.rules.names l.marked l.cursor × (l.filled + 16 ≤ length l.buffer) × (length l.buffer ≡ length l.fn.buffer) × (g.O.Sink.faults l.fn.out ≤ g.O.Sink.faults l.out)
    × ((done : List ℕ) × Goes (g.O.Sink.written l.fn.out) (g.O.Sink.written l.out) [] done (take l.filled l.buffer)
    × (done ++ concat (rest l.plan.rules.names l.marked l.cursor) ≡ concat (rest l.plan.rules.names l.marked (beginning l.fn.state))))

abbrev pub decreases-loop-unit : goal.decreases-loop-unit
decreases-loop-unit g l = length (rest l.plan.rules.names l.marked l.cursor)
