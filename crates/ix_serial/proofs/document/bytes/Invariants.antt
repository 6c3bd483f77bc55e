use Rattle.std.proofs.Common.{◌≡◌, ◌++◌, length, string_bytes}
use Rattle.std.specs.List.{concat}
use Rattle.ix_serial.specs.Cursors.{IsWithin, beginning, rest}
use Rattle.ix_serial.proofs.document.bytes.Given as goal

abbrev pub invariant-loop-unit : goal.invariant-loop-unit
invariant-loop-unit l =
    IsWithin l.plan.rules.names l.marked l.cursor
    × (string_bytes l.text ++ concat (rest l.plan.rules.names l.marked l.cursor) ≡ concat (rest l.plan.rules.names l.marked (beginning l.fn.state)))

abbrev pub decreases-loop-unit : goal.decreases-loop-unit
decreases-loop-unit l = length (rest l.plan.rules.names l.marked l.cursor)
