use Rattle.std.proofs.Common.{◌≡◌, take}
use Rattle.ix_examples.specs.TestPlans.{literals_of}
use Rattle.ix_examples.proofs.plans.literals.Given as goal

-- the literals of the characters so far
abbrev pub invariant-loop-c : goal.invariant-loop-c
invariant-loop-c l = l.terminals ≡ literals_of (take l.c-index l.chars)
