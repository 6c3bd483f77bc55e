use Rattle.std.proofs.Common.{◌≡◌, ◌+◌, ◌≤◌, length, take}
use Rattle.ix_serial.specs.Lent.{Goes}
use Rattle.ix_serial.proofs.lent.put_markup.Given as goal

abbrev pub invariant-loop-byte : goal.invariant-loop-byte
invariant-loop-byte g l =
    (l.filled + 16 ≤ length l.buffer) × (length l.buffer ≡ length l.fn.buffer) × (g.O.Sink.faults l.fn.out ≤ g.O.Sink.faults l.out)
    × Goes (g.O.Sink.written l.fn.out) (g.O.Sink.written l.out) (take l.fn.filled l.fn.buffer) (take l.byte-index l.markup) (take l.filled l.buffer)
