use Rattle.std.proofs.Common.{◌-◌}
use Rattle.ix_choice.specs.SlotTrees.{MayStart}
use Rattle.ix_choice.proofs.Ascending.{NoneBefore}
use Rattle.ix_choice.proofs.forest.Forest.start.Given as goal

abbrev pub invariant-loop-at : goal.invariant-loop-at
invariant-loop-at l = NoneBefore l.pivots (MayStart l.self l.bound l.before l.sym l.low l.high) (l.at - 1)
