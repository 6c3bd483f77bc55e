use Rattle.std.proofs.Common.{ap, subst, List, length, arith}
use Rattle.ix_model.specs.declared.rules.Line.{Line}
use Rattle.ix_model.specs.Expansion.Planned.{IsPlanned}
use Rattle.ix_model.proofs.Readers.{lines_fit}
use Rattle.ix_model.proofs.plan.Plan.alt_count.Goals as goal

pub overflow_cast-result : goal.overflow_cast-result
overflow_cast-result c = omega (arith, lines_fit _ (subst IsPlanned c.self.view_is c.self.invariant) c.args.rule c.requires, ap (λ (xs : List Line). length xs) c.lines.ensures)
