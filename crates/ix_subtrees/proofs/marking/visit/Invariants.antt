use Rattle.std.proofs.Common.{length, ◌-◌}
use Rattle.ix_subtrees.proofs.Visits.{Visiting}
use Rattle.ix_subtrees.proofs.marking.visit.Given as goal

abbrev pub invariant-loop-at : goal.invariant-loop-at
invariant-loop-at l = Visiting l.nodes l.key l.initial.at l.at l.fn.marks l.fn.todo.items l.marks l.todo.items

abbrev pub decreases-loop-at : goal.decreases-loop-at
decreases-loop-at l = length l.nodes - l.at
