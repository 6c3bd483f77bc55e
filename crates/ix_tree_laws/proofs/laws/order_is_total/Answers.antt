use Rattle.ix_tree_laws.proofs.Total.{compare}
use Rattle.ix_tree_laws.proofs.laws.order_is_total.Goals as goal

pub returns : goal.returns
returns c = λ g s d e t i j u h k. compare g s u d e t i j h k
