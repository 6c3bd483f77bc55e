use Rattle.std.proofs.Common.{◌≡◌, ap, codes, arith}
use Rattle.ix_model.specs.Derivations.Trees.{text, width}
use Rattle.ix_examples.specs.SmallTrees.{node_of}
use Rattle.ix_examples.proofs.SmallTexts.{first, one_a}
use Rattle.ix_worked_examples.proofs.FirstTexts.{a_is_first, earlier_is_first, later_is_not_first, within_is_first, around_is_not_first}
use Rattle.ix_worked_examples.proofs.order.first_trees.Goals as goal

pub returns-clause-no_derivation : goal.returns-clause-no_derivation
returns-clause-no_derivation c = λ d h. let x = one_a (codes "b") d h.0 in omega (arith, ap first x.1.2)

pub returns-clause-not_derived : goal.returns-clause-not_derived
returns-clause-not_derived c = λ h. let x : node_of 0 0 (text 0 0) ≡ node_of 0 0 (text 0 1) = (one_a (codes "a") (node_of 0 0 (text 0 0)) h.0).0 in omega (arith, ap width x)

pub returns-clause-only : goal.returns-clause-only
returns-clause-only c = a_is_first

pub returns-clause-earlier : goal.returns-clause-earlier
returns-clause-earlier c = earlier_is_first

pub returns-clause-later : goal.returns-clause-later
returns-clause-later c = later_is_not_first

pub returns-clause-within : goal.returns-clause-within
returns-clause-within c = within_is_first

pub returns-clause-around : goal.returns-clause-around
returns-clause-around c = around_is_not_first
