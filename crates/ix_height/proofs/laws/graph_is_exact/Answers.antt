use Rattle.ix_height.proofs.Descent.{is_height}
use Rattle.ix_height.proofs.laws.graph_is_exact.Goals as goal

pub returns : goal.returns
returns c = λ plan nodes edges raised planned graph. is_height plan planned nodes edges raised graph
