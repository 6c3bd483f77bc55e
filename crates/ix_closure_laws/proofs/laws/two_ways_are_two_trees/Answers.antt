use Rattle.ix_closure_laws.proofs.TwoTrees.{ambiguous_ways, ways_ambiguous}
use Rattle.ix_closure_laws.proofs.laws.two_ways_are_two_trees.Goals as goal

pub returns : goal.returns
returns c = λ plan planned. (ways_ambiguous plan planned, ambiguous_ways plan planned)
