use Rattle.std.proofs.Common.{rules}
use Rattle.ix_subtrees.proofs.Made.{kept_more}
use Rattle.ix_subtrees.proofs.keeping.kept_of.Goals as goal

pub loop-at-preserved : goal.loop-at-preserved
loop-at-preserved c = kept_more c.args.nodes.now c.args.marks.now c.loop-at.at c.loop-at.subs.items c.push_marked.new.subs.items c.loop-at-test.true c.requires c.loop-at.invariant (search rules)
