use Rattle.ix_figure_laws.proofs.CountsOnce.{counts_are_one}
use Rattle.ix_figure_laws.proofs.laws.counts_are_one.Goals as goal

pub returns : goal.returns
returns c = counts_are_one
