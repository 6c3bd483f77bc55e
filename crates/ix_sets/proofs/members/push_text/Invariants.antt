use Rattle.std.proofs.Common.{◌≡◌, take}
use Rattle.ix_sets.specs.Gains.{Gains}
use Rattle.ix_sets.proofs.Gaining.{SomeOf}
use Rattle.ix_sets.proofs.members.push_text.Given as goal

abbrev pub invariant-loop-c : goal.invariant-loop-c
invariant-loop-c l = Gains l.initial.ranges.items l.ranges.items (λ c. SomeOf (λ x. c ≡ x) (take l.c-index l.text))
