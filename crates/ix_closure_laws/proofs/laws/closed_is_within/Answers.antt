use Rattle.ix_closure_laws.proofs.ClosedWithin.{called_within, edge_within, desc_within, end_within, part_within}
use Rattle.ix_closure_laws.proofs.laws.closed_is_within.Goals as goal

pub returns : goal.returns
returns c = λ plan planned. record {
  called = called_within plan planned;
  edges = edge_within plan planned;
  descs = desc_within plan planned;
  ends = end_within plan planned;
  parts = part_within plan planned;
}
