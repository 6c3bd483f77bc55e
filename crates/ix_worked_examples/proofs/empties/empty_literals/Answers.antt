use Rattle.ix_model.specs.Derivations.Trees.{text, present, absent, no_item, list, one}
use Rattle.ix_examples.specs.SmallTrees.{node_of, two_items}
use Rattle.ix_worked_examples.proofs.EmptyTexts.{nothing, present_derives, absent_derives, no_item_derives, item_derives, one_derives, two_derive, single_empty_text}
use Rattle.ix_worked_examples.proofs.empties.empty_literals.Goals as goal

pub returns-clause-present : goal.returns-clause-present
returns-clause-present c = present_derives

pub returns-clause-absent : goal.returns-clause-absent
returns-clause-absent c = absent_derives nothing

pub returns-clause-option : goal.returns-clause-option
returns-clause-option c = (node_of 0 0 (present (text 0 0)), node_of 0 0 absent, present_derives, absent_derives nothing, λ e. cc e)

pub returns-clause-no_item : goal.returns-clause-no_item
returns-clause-no_item c = no_item_derives nothing

pub returns-clause-item : goal.returns-clause-item
returns-clause-item c = item_derives

pub returns-clause-star : goal.returns-clause-star
returns-clause-star c = (node_of 0 0 no_item, node_of 0 0 (list (one (text 0 0))), no_item_derives nothing, item_derives, λ e. cc e)

pub returns-clause-one : goal.returns-clause-one
returns-clause-one c = one_derives

pub returns-clause-two : goal.returns-clause-two
returns-clause-two c = two_derive

pub returns-clause-plus : goal.returns-clause-plus
returns-clause-plus c = (node_of 0 0 (list (one (text 0 0))), node_of 0 0 (two_items (text 0 0) (text 0 0)), one_derives, two_derive, λ e. cc e)

pub returns-clause-literal : goal.returns-clause-literal
returns-clause-literal c = single_empty_text
