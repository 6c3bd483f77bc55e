use Rattle.std.proofs.Common.{arith, codes}
use Rattle.ix_examples.specs.SmallGrammars.{only_a}
use Rattle.ix_examples.proofs.Inversions.{insertion_is_empty}
use Rattle.ix_worked_examples.proofs.terminals.insertions_take_nothing.Goals as goal

pub returns-clause-no_other : goal.returns-clause-no_other
returns-clause-no_other c = λ d h. absurd (omega (arith, insertion_is_empty only_a (codes "a") d (codes "x") 0 1 h))
