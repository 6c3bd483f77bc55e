use Rattle.std.proofs.Common.{arith}
use Rattle.ix_slots.proofs.Counting.{at_least, more_than_symbols}
use Rattle.ix_slots.proofs.numbering.add_alts.Goals as goal

pub overflow_cast-alt : goal.overflow_cast-alt
overflow_cast-alt c = omega (arith, at_least c.args.head 0 c.args.lines.now, c.loop-alt-test.true, c.requires)

pub overflow_cast-len : goal.overflow_cast-len
overflow_cast-len c = omega (arith, more_than_symbols c.args.head 0 c.args.lines.now c.index-lines-alt.result c.loop-alt.alt c.loop-alt-test.true c.index-lines-alt.is, c.len.ensures, c.requires)
