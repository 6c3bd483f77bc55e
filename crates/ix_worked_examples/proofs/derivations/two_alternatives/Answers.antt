use Rattle.std.proofs.Common.{ap, codes, arith}
use Rattle.ix_examples.specs.SmallTrees.{node_of}
use Rattle.ix_model.specs.Derivations.Trees.{text}
use Rattle.ix_examples.proofs.SmallTexts.{earlier_derives, later_derives, either_a, first}
use Rattle.ix_worked_examples.proofs.derivations.two_alternatives.Goals as goal

pub returns-clause-earlier : goal.returns-clause-earlier
returns-clause-earlier c = earlier_derives

pub returns-clause-later : goal.returns-clause-later
returns-clause-later c = later_derives

pub returns-clause-ambiguous : goal.returns-clause-ambiguous
returns-clause-ambiguous c = (node_of 0 0 (text 0 1), node_of 0 1 (text 0 1), earlier_derives, later_derives, λ e. cc e)

pub returns-clause-not_of_b : goal.returns-clause-not_of_b
returns-clause-not_of_b c = λ h. absurd (omega (arith, ap first (either_a (codes "b") h.0 h.2).1.2))
