use Rattle.ix_choice.proofs.SmallChoices.{rule_is_of_use, rule_is_of_no_use}
use Rattle.ix_choice.proofs.laws.symbols_are_of_use_or_not.Goals as goal

pub returns-clause-rule : goal.returns-clause-rule
returns-clause-rule c = rule_is_of_use

pub returns-clause-not : goal.returns-clause-not
returns-clause-not c = rule_is_of_no_use
