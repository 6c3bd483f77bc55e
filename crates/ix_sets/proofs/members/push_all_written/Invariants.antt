use Rattle.std.proofs.Common.{take}
use Rattle.ix_sets.specs.Gains.{Gains}
use Rattle.ix_sets.specs.Kinds.{IsWritten}
use Rattle.ix_sets.proofs.Gaining.{SomeOf}
use Rattle.ix_sets.proofs.members.push_all_written.Given as goal

abbrev pub invariant-loop-member : goal.invariant-loop-member
invariant-loop-member l = Gains l.initial.ranges.items l.ranges.items (λ c. SomeOf (IsWritten c) (take l.member-index l.members))
