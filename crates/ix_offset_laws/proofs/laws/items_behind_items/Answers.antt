use Rattle.ix_offset_laws.proofs.SmallEntered.{next_of_plus, behind_separator}
use Rattle.ix_offset_laws.proofs.SmallItems.{offset_of_ba}
use Rattle.ix_offset_laws.proofs.laws.items_behind_items.Goals as goal

pub returns-clause-item : goal.returns-clause-item
returns-clause-item c = next_of_plus

pub returns-clause-separated : goal.returns-clause-separated
returns-clause-separated c = behind_separator

pub returns-clause-nowhere_else : goal.returns-clause-nowhere_else
returns-clause-nowhere_else c = offset_of_ba
