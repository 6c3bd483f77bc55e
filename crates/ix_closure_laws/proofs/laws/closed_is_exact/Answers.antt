use Rattle.std.proofs.Common.{None}
use Rattle.ix_closure_laws.proofs.ClosedTrees.{desc_trees, desc_called, end_tree, end_called, part_trees, part_called}
use Rattle.ix_closure_laws.proofs.TreesClosed.{covered_desc, covered_part, end_closed}
use Rattle.ix_closure_laws.proofs.ClosedLinks.{called_from, called_by, edge_from, edge_by}
use Rattle.ix_closure_laws.proofs.laws.closed_is_exact.Goals as goal

pub returns : goal.returns
returns c = λ plan planned. record {
  called = λ q p. (called_from plan q p, called_by plan q p);
  edges = λ q p s l. (edge_from plan q p s l, edge_by plan q p s l);
  descs = λ s l p. (λ h. (desc_called plan s l p h, desc_trees plan s l p h), λ h. covered_desc plan planned s l p h.1.0 h.0 h.1.1);
  ends = λ q l e. (λ h. let t = end_tree plan q l e h in (end_called plan q l e h, (t.0, t.1 None)), λ h. end_closed plan planned h.1.0 q l e h.0 h.1.1);
  parts = λ s l k r. (λ h. (part_called plan s l k r h, part_trees plan s l k r h), λ h. covered_part plan planned s l k r h.1.0 h.0 h.1.1 h.1.2);
}
