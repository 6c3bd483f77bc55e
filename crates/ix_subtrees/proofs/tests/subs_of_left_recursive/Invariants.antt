use Rattle.std.proofs.Common.{◌≡◌}
use Rattle.ix_subtrees.specs.Examples.{left_recursive_subs}
use Rattle.ix_subtrees.proofs.tests.subs_of_left_recursive.Given as goal

abbrev pub invariant-loop-letter : goal.invariant-loop-letter
invariant-loop-letter l = l.subs.items ≡ left_recursive_subs l.letter
