use Rattle.std.proofs.Common.{refl, codes, arith}
use Rattle.ix_model.specs.Documents.Dyn.{attribute_at_top}
use Rattle.ix_worked_examples.proofs.refusals.attributes_at_top.Goals as goal

pub returns-clause-not_count : goal.returns-clause-not_count
returns-clause-not_count c = λ h. omega (arith, h.1 (attribute_at_top (codes "a")) refl)
