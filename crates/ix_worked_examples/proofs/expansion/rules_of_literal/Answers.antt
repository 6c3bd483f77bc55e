use Rattle.ix_worked_examples.proofs.SmallRules.{expands_a, literal_has_no_helper}
use Rattle.ix_worked_examples.proofs.expansion.rules_of_literal.Goals as goal

pub returns-clause-rules : goal.returns-clause-rules
returns-clause-rules c = expands_a

pub returns-clause-others : goal.returns-clause-others
returns-clause-others c = literal_has_no_helper
