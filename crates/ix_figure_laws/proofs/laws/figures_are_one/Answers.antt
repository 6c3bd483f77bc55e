use Rattle.ix_figure_laws.proofs.FiguresOnce.{figures_are_one}
use Rattle.ix_figure_laws.proofs.laws.figures_are_one.Goals as goal

pub returns : goal.returns
returns c = figures_are_one
