use Rattle.ix_choice.proofs.SmallChoices.{rule_is_one_high, literal_is_flat, insertion_is_flat, rule_is_not_flat, rule_is_not_two_high, literal_is_not_empty}
use Rattle.ix_choice.proofs.laws.symbols_have_heights_or_not.Goals as goal

pub returns-clause-rule : goal.returns-clause-rule
returns-clause-rule c = rule_is_one_high

pub returns-clause-literal : goal.returns-clause-literal
returns-clause-literal c = literal_is_flat

pub returns-clause-insertion : goal.returns-clause-insertion
returns-clause-insertion c = insertion_is_flat

pub returns-clause-lower : goal.returns-clause-lower
returns-clause-lower c = rule_is_not_flat

pub returns-clause-higher : goal.returns-clause-higher
returns-clause-higher c = rule_is_not_two_high

pub returns-clause-no_tree : goal.returns-clause-no_tree
returns-clause-no_tree c = literal_is_not_empty
