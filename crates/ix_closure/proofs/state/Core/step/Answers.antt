use Rattle.std.proofs.Common.{◌<◌, length, ap, subst, rules, arith, OnOk, slice_set}
use Rattle.ix_closure.specs.Events.{Event}
use Rattle.ix_closure.specs.Seen.{State, Core}
use Rattle.ix_closure.proofs.Due.CoreSteps.{has_slot, is_ready, ok_event, stays_balanced}
use Rattle.ix_closure.proofs.state.Core.step.Goals as goal

pub home_for-m-requires-clause-slot : goal.home_for-m-requires-clause-slot
home_for-m-requires-clause-slot c =
    let old : State = record { banks = c.self.inside.banks.banks.items; owed = c.self.inside.owed.items } in
    let within : c.args.n < length c.self.inside.owed.items = omega (arith, c.requires, ap (λ (core : Core). length core.state.owed) c.self.view_is) in
    has_slot c.self.inside.plan.now c.slot_count-m.ensures.planned old c.self.invariant c.args.n c.index-step.result.now within c.index-step.ensures

pub do_step-requires-clause-ready : goal.do_step-requires-clause-ready
do_step-requires-clause-ready c =
    let old : State = record { banks = c.self.inside.banks.banks.items; owed = c.self.inside.owed.items } in
    let within : c.args.n < length c.self.inside.owed.items = omega (arith, c.requires, ap (λ (core : Core). length core.state.owed) c.self.view_is) in
    is_ready c.self.inside.plan.now c.slot_count-m.ensures.planned old c.self.invariant c.args.n c.index-step.result.now within c.index-step.ensures c.home_for-m.result (search rules) c.index_mut.result.now c.index_mut.ensures.value

pub invariant_of-self : goal.invariant_of-self
invariant_of-self c =
    let old : State = record { banks = c.self.inside.banks.banks.items; owed = c.self.inside.owed.items } in
    let within : c.args.n < length c.self.inside.owed.items = omega (arith, c.requires, ap (λ (core : Core). length core.state.owed) c.self.view_is) in
    stays_balanced c.self.inside.plan.now c.slot_count-m.ensures.planned old c.self.invariant c.args.n c.index-step.result.now within c.index-step.ensures c.home_for-m.result (search rules) c.index_mut.result.now c.index_mut.ensures.value
    c.do_step.new.bank c.do_step.new.owed.items c.do_step.result c.do_step.ensures.bank c.do_step.ensures.owed c.do_step.ensures.err_bank c.do_step.ensures.err_owed c.do_step.ensures.bounded

pub returns-clause-event : goal.returns-clause-event
returns-clause-event c =
    let old : State = record { banks = c.self.inside.banks.banks.items; owed = c.self.inside.owed.items } in
    let within : c.args.n < length c.self.inside.owed.items = omega (arith, c.requires, ap (λ (core : Core). length core.state.owed) c.self.view_is) in
    let event = ok_event c.self.inside.plan.now c.slot_count-m.ensures.planned old c.self.invariant c.args.n c.index-step.result.now within c.index-step.ensures c.home_for-m.result (search rules) c.index_mut.result.now c.index_mut.ensures.value
    c.do_step.new.bank c.do_step.new.owed.items c.do_step.result c.do_step.ensures.bank c.do_step.ensures.owed c.do_step.ensures.bounded in
    subst (λ (core : Core). OnOk c.do_step.result (Event core.plan core.state c.args.n (record { banks = slice_set c.self.inside.banks.banks.items c.home_for-m.result c.do_step.new.bank; owed = c.do_step.new.owed.items }))) c.self.view_is event
