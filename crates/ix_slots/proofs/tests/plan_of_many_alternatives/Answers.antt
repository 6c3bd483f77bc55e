use Rattle.std.proofs.Common.{subst, sym, ap, arith, ℕ, List, length}
use Rattle.ix_model.specs.declared.rules.Rules.{Rules}
use Rattle.ix_slots.specs.Plannable.{IsPlannable}
use Rattle.ix_slots.proofs.ManyRules.{many_plannable}
use Rattle.ix_slots.proofs.tests.plan_of_many_alternatives.Goals as goal

pub plan-requires : goal.plan-requires
plan-requires c =
    subst (λ (rules : Rules). IsPlannable rules c.new.result.items) (sym c.in_ok-rules_of_many_alternatives.ensures)
    (many_plannable c.args.count c.new.result.items c.requires (omega (arith, ap (λ (z : List ℕ). length z) c.new.ensures.items)))
