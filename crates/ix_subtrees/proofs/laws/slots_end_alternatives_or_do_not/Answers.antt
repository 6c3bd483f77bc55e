use Rattle.ix_subtrees.proofs.LeftRecursionSet.{last_slot_ends, inner_slot_does_not_end}
use Rattle.ix_subtrees.proofs.laws.slots_end_alternatives_or_do_not.Goals as goal

pub returns-clause-last : goal.returns-clause-last
returns-clause-last c = last_slot_ends

pub returns-clause-inner : goal.returns-clause-inner
returns-clause-inner c = inner_slot_does_not_end
