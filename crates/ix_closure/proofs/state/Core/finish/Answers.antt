use Rattle.std.proofs.Common.{arith, ◌∙◌, ◌≤◌, ◌+◌, ◌*◌, [], ap, sym, subst, refl, length}
use Rattle.std.specs.List.{count_by}
use Rattle.ix_model.specs.Expansion.Parts.{Parts}
use Rattle.ix_cluster.specs.Banks.{facts_of, is_descriptor}
use Rattle.ix_closure.specs.LastRuns.{stays}
use Rattle.ix_closure.specs.Seen.{Core, State}
use Rattle.ix_closure.proofs.Weighing.FewDescriptors.{few_descriptors}
use Rattle.ix_closure.proofs.Closing.Finishing.{from_on_ok, event_falls}
use Rattle.ix_closure.proofs.Closing.LastSteps.{last_further}
use Rattle.ix_closure.proofs.Closing.QuietRuns.{quiet_last}
use Rattle.ix_closure.proofs.state.Core.finish.Goals as goal

pub loop-core-init : goal.loop-core-init
loop-core-init c = record { plan = refl; reached = ([], stays) }

pub returns-then-count-eq0-clause-few : goal.returns-then-count-eq0-clause-few
returns-then-count-eq0-clause-few c =
    let closure = c.owed-count.ensures.closure c.if-count-eq0.true in
    let few = few_descriptors c.loop-core.core.plan c.owed-count.ensures.planned (facts_of c.loop-core.core.state.banks) closure.closed closure.once in
    let banks = ap (λ (core : Core). core.state.banks) c.core.view_is in
    subst (λ (plan : Parts). count_by is_descriptor (facts_of c.core.inside.banks.banks.items) ≤ length plan.slots * ((length plan.text + 1) * (length plan.text + 1))) c.loop-core.invariant.plan
    (subst (λ bs. count_by is_descriptor (facts_of bs) ≤ length c.loop-core.core.plan.slots * ((length c.loop-core.core.plan.text + 1) * (length c.loop-core.core.plan.text + 1))) (sym banks) few)

pub returns-then-count-eq0-clause-quiet : goal.returns-then-count-eq0-clause-quiet
returns-then-count-eq0-clause-quiet c = λ quiet. ap (λ (core : Core). core.state.banks) c.core.view_is ∙ ap (λ (state : State). state.banks) (quiet_last quiet c.loop-core.invariant.reached)

pub returns-then-is_err-clause-quiet_ok : goal.returns-then-is_err-clause-quiet_ok
returns-then-is_err-clause-quiet_ok c = λ quiet. absurd (omega (arith, c.owed-count.ensures.count, c.if-count-eq0.false, ap (λ (state : State). length state.owed) (quiet_last quiet c.loop-core.invariant.reached), ap length quiet))

pub loop-core-smaller : goal.loop-core-smaller
loop-core-smaller c =
    let event = from_on_ok c.step.result (sym c.is_err.ensures.value ∙ c.if-is_err.false) c.step.ensures.event in
    event_falls c.loop-core.core.plan c.owed-count.ensures.planned c.loop-core.core.state c.step.new.self.state _ c.owed-count.ensures.balanced event c.step.ensures.small

pub loop-core-preserved : goal.loop-core-preserved
loop-core-preserved c =
    let event = from_on_ok c.step.result (sym c.is_err.ensures.value ∙ c.if-is_err.false) c.step.ensures.event in
    record {
      plan = c.step.ensures.plan ∙ c.loop-core.invariant.plan;
      reached = last_further c.loop-core.invariant.reached c.loop-core.invariant.plan (omega (arith, c.owed-count.ensures.count, c.if-count-eq0.false)) event;
    }
