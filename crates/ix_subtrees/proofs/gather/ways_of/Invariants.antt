use Rattle.ix_subtrees.specs.Gathered.{IsWay, Gathered}
use Rattle.ix_subtrees.proofs.gather.ways_of.Given as goal

abbrev pub invariant-loop-at : goal.invariant-loop-at
invariant-loop-at l = Gathered IsWay l.subs l.at l.out.items
