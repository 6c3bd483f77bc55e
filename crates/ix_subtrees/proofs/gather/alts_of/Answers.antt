use Rattle.std.proofs.Common.{rules}
use Rattle.ix_subtrees.specs.Gathered.{IsAlt}
use Rattle.ix_subtrees.proofs.Gathering.{gathered_next}
use Rattle.ix_subtrees.proofs.gather.alts_of.Goals as goal

pub loop-at-preserved : goal.loop-at-preserved
loop-at-preserved c = gathered_next (IsAlt c.args.plan.now) c.args.subs.now c.loop-at.at c.loop-at.out.items c.push_some.new.out.items c.alt_of.result c.alt_of.ensures.alt c.alt_of.ensures.only c.loop-at.invariant (search rules)
