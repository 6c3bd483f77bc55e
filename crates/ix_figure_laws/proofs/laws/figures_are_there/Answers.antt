use Rattle.ix_figure_laws.proofs.FiguresThere.{figures_are_there}
use Rattle.ix_figure_laws.proofs.laws.figures_are_there.Goals as goal

pub returns : goal.returns
returns c = figures_are_there
