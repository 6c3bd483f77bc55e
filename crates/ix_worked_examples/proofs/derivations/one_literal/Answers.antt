use Rattle.std.proofs.Common.{ap, sym, ◌∙◌, codes, arith}
use Rattle.ix_examples.proofs.SmallTexts.{a_derives, one_a, first}
use Rattle.ix_worked_examples.proofs.derivations.one_literal.Goals as goal

pub returns-clause-tree : goal.returns-clause-tree
returns-clause-tree c = a_derives

pub returns-clause-no_other : goal.returns-clause-no_other
returns-clause-no_other c = λ d h. (one_a (codes "a") d h).0

pub returns-clause-none : goal.returns-clause-none
returns-clause-none c = λ d h. let x = one_a (codes "b") d h in absurd (omega (arith, ap first x.1.2))

pub returns-clause-none_longer : goal.returns-clause-none_longer
returns-clause-none_longer c = λ d h. let x = one_a (codes "aa") d h in absurd (omega (arith, x.1.0))

pub returns-clause-single : goal.returns-clause-single
returns-clause-single c = λ h. h.4 ((one_a (codes "a") h.0 h.2).0 ∙ sym (one_a (codes "a") h.1 h.3).0)
