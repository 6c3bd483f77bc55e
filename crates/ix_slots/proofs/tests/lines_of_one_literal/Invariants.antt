use Rattle.std.proofs.Common.{◌≡◌, ◌∷◌, [], replicate}
use Rattle.ix_model.specs.Expansion.Expanded.{line}
use Rattle.ix_examples.specs.SmallRules.{shown}
use Rattle.ix_slots.proofs.tests.lines_of_one_literal.Given as goal

abbrev pub invariant-loop-made : goal.invariant-loop-made
invariant-loop-made l = l.lines ≡ replicate l._made (line (shown 0 ∷ []))
