use Rattle.std.proofs.Common.{◌-◌}
use Rattle.ix_choice.proofs.Ascending.{NoneBefore}
use Rattle.ix_choice.proofs.ForestFacts.{HasAlt}
use Rattle.ix_choice.proofs.forest.Forest.alternative.Given as goal

abbrev pub invariant-loop-at : goal.invariant-loop-at
invariant-loop-at l = NoneBefore l.alts (HasAlt l.self l.bound l.rule l.low l.high) (l.at - 1)
