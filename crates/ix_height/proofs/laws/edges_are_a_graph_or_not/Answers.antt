use Rattle.ix_height.proofs.SmallHeights.{letter_is_a_graph, edge_is_missing, rule_is_not_raised}
use Rattle.ix_height.proofs.laws.edges_are_a_graph_or_not.Goals as goal

pub returns-clause-graph : goal.returns-clause-graph
returns-clause-graph c = letter_is_a_graph

pub returns-clause-missing : goal.returns-clause-missing
returns-clause-missing c = edge_is_missing

pub returns-clause-raised : goal.returns-clause-raised
returns-clause-raised c = rule_is_not_raised
