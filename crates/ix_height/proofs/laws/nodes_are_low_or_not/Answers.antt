use Rattle.ix_height.proofs.SmallHeights.{once_is_low, around_is_low, rule_is_not_lower}
use Rattle.ix_height.proofs.laws.nodes_are_low_or_not.Goals as goal

pub returns-clause-once : goal.returns-clause-once
returns-clause-once c = once_is_low

pub returns-clause-around : goal.returns-clause-around
returns-clause-around c = around_is_low

pub returns-clause-lower : goal.returns-clause-lower
returns-clause-lower c = rule_is_not_lower
