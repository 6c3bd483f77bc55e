use Rattle.std.proofs.Common.{◌≡◌, arith, subst}
use Rattle.std.proofs.lemmas.Grind.{common_steps}
use Rattle.ix_model.specs.Expansion.Slots.{info_at}
use Rattle.ix_model.specs.Expansion.Planned.{IsPlanned}
use Rattle.ix_model.proofs.Readers.{head_there, alt_there}
use Rattle.ix_model.proofs.plan.Plan.info.Goals as goal

pub returns-clause-rule : goal.returns-clause-rule
returns-clause-rule c =
    let same : c.index.result.now ≡ info_at c.args.self.now c.args.slot = grind (arith, common_steps) in
    rw same (head_there _ (subst IsPlanned c.self.view_is c.self.invariant) c.args.slot c.requires)

pub returns-clause-alt : goal.returns-clause-alt
returns-clause-alt c =
    let same : c.index.result.now ≡ info_at c.args.self.now c.args.slot = grind (arith, common_steps) in
    rw same (alt_there _ (subst IsPlanned c.self.view_is c.self.invariant) c.args.slot c.requires)
