use Rattle.std.proofs.lemmas.Result.{IfOk-weaker}
use Rattle.ix_sets.proofs.Choosing.{scalars_held}
use Rattle.ix_sets.proofs.set.characters.Goals as goal

pub returns : goal.returns
returns c = IfOk-weaker _ _ _ scalars_held c.from_ranges.ensures
