use Rattle.ix_worked_examples.proofs.EmptyTexts.{only_absent, only_no_item, none_of_plus, single_absent, single_no_item, single_no_tree}
use Rattle.ix_worked_examples.proofs.empties.no_empty_content.Goals as goal

pub returns-clause-option : goal.returns-clause-option
returns-clause-option c = only_absent

pub returns-clause-star : goal.returns-clause-star
returns-clause-star c = only_no_item

pub returns-clause-plus : goal.returns-clause-plus
returns-clause-plus c = none_of_plus

pub returns-clause-single_option : goal.returns-clause-single_option
returns-clause-single_option c = single_absent

pub returns-clause-single_star : goal.returns-clause-single_star
returns-clause-single_star c = single_no_item

pub returns-clause-single_alternative : goal.returns-clause-single_alternative
returns-clause-single_alternative c = single_no_tree
