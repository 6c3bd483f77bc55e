use Rattle.ix_table.proofs.Changes.{changes}
use Rattle.ix_table.proofs.laws.steps_change_one_place.Goals as goal

pub returns : goal.returns
returns c = changes
