use Rattle.std.proofs.Common.{codes}
use Rattle.ix_examples.specs.SmallTrees.{node_of}
use Rattle.ix_model.specs.Derivations.Trees.{text}
use Rattle.ix_examples.proofs.SmallTexts.{within_derives, around}
use Rattle.ix_worked_examples.proofs.derivations.rule_of_itself.Goals as goal

pub returns-clause-tree : goal.returns-clause-tree
returns-clause-tree c = within_derives

pub returns-clause-around : goal.returns-clause-around
returns-clause-around c = λ d h. around (codes "a") d h

pub returns-clause-ambiguous : goal.returns-clause-ambiguous
returns-clause-ambiguous c = (node_of 0 1 (text 0 1), node_of 0 0 (node_of 0 1 (text 0 1)), within_derives, around (codes "a") (node_of 0 1 (text 0 1)) within_derives, λ e. cc e)
