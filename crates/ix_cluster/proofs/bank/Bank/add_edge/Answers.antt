use Rattle.std.proofs.Common.{arith, ap₂, ◌≡◌, ◌∙◌, ◌+◌, ◌<◌, List, length, sym, ap, subst, rules}
use Rattle.ix_cluster.specs.declared.limits.TheConstants.{FACT_LIMIT}
use Rattle.ix_cluster.specs.declared.fact.Fact.{Fact}
use Rattle.ix_cluster.specs.BankSteps.{AddEdge, Opens}
use Rattle.ix_cluster.specs.Lists.{cluster}
use Rattle.ix_cluster.specs.Seen.{Bank}
use Rattle.ix_cluster.specs.Sound.{IsSoundBank}
use Rattle.ix_cluster.specs.Steps.{ends_in, after_edge, edge_is_first, edge_answer}
use Rattle.ix_cluster.proofs.Beginning.{rule_there}
use Rattle.ix_cluster.proofs.Consistency.{consistent-edges_kept, consistent-edge, edge-there_same, edge-there_first, edge-there_none, edge-there_log, edge-new, edge-new_made, edge-new_first, edge-new_answer, edge-new_log}
use Rattle.ix_cluster.proofs.Handing.{handed-small}
use Rattle.ix_cluster.proofs.Soundness.{sound-edge}
use Rattle.ix_cluster.proofs.StepCases.{step_from}
use Rattle.ix_cluster.proofs.bank.Bank.add_edge.Goals as goal

pub call_room-requires : goal.call_room-requires
call_room-requires c = rule_there c.args.plan.now c.slot_count.ensures.planned c.args.slot c.args.rule c.requires.symbol.0 c.requires.symbol.1

pub call-first-requires-clause-rule : goal.call-first-requires-clause-rule
call-first-requires-clause-rule c = rule_there c.args.plan.now c.slot_count.ensures.planned c.args.slot c.args.rule c.requires.symbol.0 c.requires.symbol.1

pub invariant_of-self-in_err-place : goal.invariant_of-self-in_err-place
invariant_of-self-in_err-place c =
    consistent-edges_kept c.self.inside.log.facts c.reserve.new.self.facts c.self.inside.edges c.self.inside.ends c.self.inside.handed c.self.invariant c.place_for.new.map c.reserve.ensures.facts c.place_for.ensures.kept

-- ---- the edge was there

pub invariant_of-self-then-not-add : goal.invariant_of-self-then-not-add
invariant_of-self-then-not-add c =
    let same = edge-there_same c.args.plan.now c.self.inside.log.facts c.reserve.new.self.facts c.call-first.new.log.facts c.add.new.self.facts c.args.rule c.args.at c.args.slot c.args.left c.call-first.result c.add.result c.reserve.ensures.facts c.call-first.ensures.facts c.call-first.ensures.first c.add.ensures.added c.add.ensures.facts c.if-not-add.true c.self.invariant.called in
    consistent-edges_kept c.self.inside.log.facts c.add.new.self.facts c.self.inside.edges c.self.inside.ends c.self.inside.handed c.self.invariant c.place_for.new.map same c.place_for.ensures.kept

pub returns-then-not-add-clause-first : goal.returns-then-not-add-clause-first
returns-then-not-add-clause-first c =
    subst (λ (z : Bank). c.call-first.result ≡ edge_is_first z.log c.args.rule c.args.at c.args.slot c.args.left) c.self.view_is (edge-there_first c.args.plan.now c.self.inside.log.facts c.reserve.new.self.facts c.call-first.new.log.facts c.add.new.self.facts c.args.rule c.args.at c.args.slot c.args.left c.call-first.result c.add.result c.reserve.ensures.facts c.call-first.ensures.facts c.call-first.ensures.first c.add.ensures.added c.add.ensures.facts c.if-not-add.true c.self.invariant.called)

pub returns-then-not-add-clause-ends : goal.returns-then-not-add-clause-ends
returns-then-not-add-clause-ends c =
    subst (λ (z : Bank). c.in_ok-ends.ends.items ≡ edge_answer z.log c.args.rule c.args.at c.args.slot c.args.left) c.self.view_is (c.in_ok-ends.ensures.items ∙ sym (edge-there_none c.args.plan.now c.self.inside.log.facts c.reserve.new.self.facts c.call-first.new.log.facts c.add.new.self.facts c.args.rule c.args.at c.args.slot c.args.left c.call-first.result c.add.result c.reserve.ensures.facts c.call-first.ensures.facts c.call-first.ensures.first c.add.ensures.added c.add.ensures.facts c.if-not-add.true c.self.invariant.called))

pub returns-then-not-add-clause-log : goal.returns-then-not-add-clause-log
returns-then-not-add-clause-log c =
    subst (λ (z : Bank). c.add.new.self.facts ≡ after_edge c.args.plan.now z.log c.args.rule c.args.at c.args.slot c.args.left) c.self.view_is (edge-there_log c.args.plan.now c.self.inside.log.facts c.reserve.new.self.facts c.call-first.new.log.facts c.add.new.self.facts c.args.rule c.args.at c.args.slot c.args.left c.call-first.result c.add.result c.reserve.ensures.facts c.call-first.ensures.facts c.call-first.ensures.first c.add.ensures.added c.add.ensures.facts c.if-not-add.true c.self.invariant.called)

pub returns-then-not-add-clause-step : goal.returns-then-not-add-clause-step
returns-then-not-add-clause-step c =
    step_from c.args.plan.now _ (AddEdge c.args.rule c.args.at c.args.slot c.args.left) (Opens c.call-first.result c.in_ok-ends.ends.items) c.add.new.self.facts
    (ap₂ Opens (returns-then-not-add-clause-first c) (returns-then-not-add-clause-ends c)) (returns-then-not-add-clause-log c)

pub returns-then-not-add-clause-sound : goal.returns-then-not-add-clause-sound
returns-then-not-add-clause-sound c count m sound closed here =
    let same = edge-there_same c.args.plan.now c.self.inside.log.facts c.reserve.new.self.facts c.call-first.new.log.facts c.add.new.self.facts c.args.rule c.args.at c.args.slot c.args.left c.call-first.result c.add.result c.reserve.ensures.facts c.call-first.ensures.facts c.call-first.ensures.first c.add.ensures.added c.add.ensures.facts c.if-not-add.true c.self.invariant.called in
    subst (λ (facts : List Fact). IsSoundBank c.args.plan.now count m (record { log = facts; handed = c.self.inside.handed })) (sym same) (subst (IsSoundBank c.args.plan.now count m) (sym c.self.view_is) sound)

-- ---- the edge is new

pub overflow_add-self : goal.overflow_add-self
overflow_add-self c =
    let small : length c.self.inside.log.facts < FACT_LIMIT = omega (arith, c.in_ok-reserve.ensures.small, ap length c.in_ok-reserve.ensures.facts) in
    omega (arith, handed-small c.self.inside.log.facts small, c.self.invariant.kept.counted, c.len.type_inv)

pub invariant_of-self-2 : goal.invariant_of-self-2
invariant_of-self-2 c =
    let none = edge-new c.args.plan.now c.self.inside.log.facts c.reserve.new.self.facts c.call-first.new.log.facts c.add.new.self.facts c.args.rule c.args.at c.args.slot c.args.left c.call-first.result c.add.result c.reserve.ensures.facts c.call-first.ensures.facts c.call-first.ensures.first c.add.ensures.added c.add.ensures.facts c.if-not-add.false in
    let made = edge-new_made c.args.plan.now c.self.inside.log.facts c.reserve.new.self.facts c.call-first.new.log.facts c.add.new.self.facts c.args.rule c.args.at c.args.slot c.args.left c.call-first.result c.add.result c.reserve.ensures.facts c.call-first.ensures.facts c.call-first.ensures.first c.add.ensures.added c.add.ensures.facts c.if-not-add.false in
    let met : c.extend_from_slice.new.self.items ≡ ends_in c.self.inside.log.facts (cluster c.args.rule c.args.at) = search rules in
    consistent-edge c.self.inside.log.facts c.add.new.self.facts c.self.inside.edges c.self.inside.ends c.self.inside.handed c.self.invariant c.args.plan.now c.place_for.new.map c.push_at.new.map c.args.rule c.args.at c.args.slot c.args.left c.len.result none made c.place_for.ensures.kept
    (c.push_at.ensures (cluster c.args.rule c.args.at) c.in_ok-place.ensures.place) (c.len.ensures.value ∙ ap length met)

pub returns-clause-first : goal.returns-clause-first
returns-clause-first c =
    subst (λ (z : Bank). c.call-first.result ≡ edge_is_first z.log c.args.rule c.args.at c.args.slot c.args.left) c.self.view_is (edge-new_first c.args.plan.now c.self.inside.log.facts c.reserve.new.self.facts c.call-first.new.log.facts c.add.new.self.facts c.args.rule c.args.at c.args.slot c.args.left c.call-first.result c.add.result c.reserve.ensures.facts c.call-first.ensures.facts c.call-first.ensures.first c.add.ensures.added c.add.ensures.facts c.if-not-add.false)

pub returns-clause-ends : goal.returns-clause-ends
returns-clause-ends c =
    let met : c.extend_from_slice.new.self.items ≡ ends_in c.self.inside.log.facts (cluster c.args.rule c.args.at) = search rules in
    subst (λ (z : Bank). c.extend_from_slice.new.self.items ≡ edge_answer z.log c.args.rule c.args.at c.args.slot c.args.left) c.self.view_is (met ∙ sym (edge-new_answer c.args.plan.now c.self.inside.log.facts c.reserve.new.self.facts c.call-first.new.log.facts c.add.new.self.facts c.args.rule c.args.at c.args.slot c.args.left c.call-first.result c.add.result c.reserve.ensures.facts c.call-first.ensures.facts c.call-first.ensures.first c.add.ensures.added c.add.ensures.facts c.if-not-add.false))

pub returns-clause-log : goal.returns-clause-log
returns-clause-log c =
    subst (λ (z : Bank). c.add.new.self.facts ≡ after_edge c.args.plan.now z.log c.args.rule c.args.at c.args.slot c.args.left) c.self.view_is (edge-new_log c.args.plan.now c.self.inside.log.facts c.reserve.new.self.facts c.call-first.new.log.facts c.add.new.self.facts c.args.rule c.args.at c.args.slot c.args.left c.call-first.result c.add.result c.reserve.ensures.facts c.call-first.ensures.facts c.call-first.ensures.first c.add.ensures.added c.add.ensures.facts c.if-not-add.false)

pub returns-clause-step : goal.returns-clause-step
returns-clause-step c =
    step_from c.args.plan.now _ (AddEdge c.args.rule c.args.at c.args.slot c.args.left) (Opens c.call-first.result c.extend_from_slice.new.self.items) c.add.new.self.facts
    (ap₂ Opens (returns-clause-first c) (returns-clause-ends c)) (returns-clause-log c)

pub returns-clause-sound : goal.returns-clause-sound
returns-clause-sound c count m sound closed here =
    let log = edge-new_log c.args.plan.now c.self.inside.log.facts c.reserve.new.self.facts c.call-first.new.log.facts c.add.new.self.facts c.args.rule c.args.at c.args.slot c.args.left c.call-first.result c.add.result c.reserve.ensures.facts c.call-first.ensures.facts c.call-first.ensures.first c.add.ensures.added c.add.ensures.facts c.if-not-add.false in
    let met : c.extend_from_slice.new.self.items ≡ ends_in c.self.inside.log.facts (cluster c.args.rule c.args.at) = search rules in
    let there = rule_there c.args.plan.now c.slot_count.ensures.planned c.args.slot c.args.rule c.requires.symbol.0 c.requires.symbol.1 in
    sound-edge c.args.plan.now count m c.slot_count.ensures.planned (record { log = c.self.inside.log.facts; handed = c.self.inside.handed }) (record { log = c.add.new.self.facts; handed = c.self.inside.handed + c.len.result }) c.args.rule c.args.at c.args.slot c.args.left c.extend_from_slice.new.self.items there
    log (met ∙ sym (edge-new_answer c.args.plan.now c.self.inside.log.facts c.reserve.new.self.facts c.call-first.new.log.facts c.add.new.self.facts c.args.rule c.args.at c.args.slot c.args.left c.call-first.result c.add.result c.reserve.ensures.facts c.call-first.ensures.facts c.call-first.ensures.first c.add.ensures.added c.add.ensures.facts c.if-not-add.false)) (ap (λ n. c.self.inside.handed + n) c.len.ensures.value) c.add.ensures.bounded here closed
    (subst (IsSoundBank c.args.plan.now count m) (sym c.self.view_is) sound)
