use Rattle.std.proofs.Common.{◌≡◌, ◌+◌, length}
use Rattle.std.specs.List.{concat}
use Rattle.ix_serial.specs.Cursors.{IsWithin, beginning, rest}
use Rattle.ix_serial.proofs.document.size.Given as goal

abbrev pub invariant-loop-unit : goal.invariant-loop-unit
invariant-loop-unit l =
    IsWithin l.plan.rules.names l.marked l.cursor
    × (l.count + length (concat (rest l.plan.rules.names l.marked l.cursor)) ≡ length (concat (rest l.plan.rules.names l.marked (beginning l.fn.state))))

abbrev pub decreases-loop-unit : goal.decreases-loop-unit
decreases-loop-unit l = length (rest l.plan.rules.names l.marked l.cursor)
