use Rattle.ix_subtrees.specs.Gathered.{IsAlt, Gathered}
use Rattle.ix_subtrees.proofs.gather.alts_of.Given as goal

abbrev pub invariant-loop-at : goal.invariant-loop-at
invariant-loop-at l = Gathered (IsAlt l.plan) l.subs l.at l.out.items
