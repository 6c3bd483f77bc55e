use Rattle.std.proofs.Common.{arith, ◌≡◌, ◌∙◌, ◌+◌, ◌<◌, List, [], length, cond, true, false, sym, ap, subst, rules}
use Rattle.ix_cluster.specs.declared.limits.TheConstants.{FACT_LIMIT}
use Rattle.ix_cluster.specs.declared.fact.Fact.{Fact}
use Rattle.ix_cluster.specs.declared.fact.Fact.TheVariants.{End}
use Rattle.ix_cluster.specs.BankSteps.{AddEnd, Meets}
use Rattle.ix_cluster.specs.Facts.{has, put}
use Rattle.ix_cluster.specs.Lists.{cluster}
use Rattle.ix_cluster.specs.Sound.{IsSoundBank}
use Rattle.ix_cluster.specs.Steps.{edges_in}
use Rattle.ix_cluster.proofs.Consistency.{consistent-ends_kept, consistent-end}
use Rattle.ix_cluster.proofs.Counts.{put-old, was-there, was-new}
use Rattle.ix_cluster.proofs.Handing.{handed-small}
use Rattle.ix_cluster.proofs.Soundness.{sound-end}
use Rattle.ix_cluster.proofs.StepCases.{step_from}
use Rattle.ix_cluster.proofs.bank.Bank.add_end.Goals as goal

pub returns-then-not-add-clause-step : goal.returns-then-not-add-clause-step
returns-then-not-add-clause-step c plan = step_from plan _ (AddEnd c.args.rule c.args.at c.args.end) (Meets c.in_ok-edges.edges.items) c.add.new.self.facts (ap Meets (search rules)) (search rules)

pub returns-then-not-add-clause-sound : goal.returns-then-not-add-clause-sound
returns-then-not-add-clause-sound c plan count m sound closed here =
    let there : has c.self.inside.log.facts (End c.args.rule c.args.at c.args.end) ≡ true = was-there c.self.inside.log.facts c.reserve.new.self.facts (End c.args.rule c.args.at c.args.end) c.add.result c.reserve.ensures.facts c.add.ensures.added c.if-not-add.true in
    let same : c.add.new.self.facts ≡ c.self.inside.log.facts = c.add.ensures.facts ∙ ap (λ l. put l (End c.args.rule c.args.at c.args.end)) c.reserve.ensures.facts ∙ put-old c.self.inside.log.facts (End c.args.rule c.args.at c.args.end) there in
    subst (λ (facts : List Fact). IsSoundBank plan count m (record { log = facts; handed = c.self.inside.handed })) (sym same) (subst (IsSoundBank plan count m) (sym c.self.view_is) sound)

pub invariant_of-self-in_err-place : goal.invariant_of-self-in_err-place
invariant_of-self-in_err-place c =
    consistent-ends_kept c.self.inside.log.facts c.reserve.new.self.facts c.self.inside.edges c.self.inside.ends c.self.inside.handed c.self.invariant c.place_for.new.map c.reserve.ensures.facts c.place_for.ensures.kept

pub invariant_of-self-then-not-add : goal.invariant_of-self-then-not-add
invariant_of-self-then-not-add c =
    let there : has c.self.inside.log.facts (End c.args.rule c.args.at c.args.end) ≡ true = was-there c.self.inside.log.facts c.reserve.new.self.facts (End c.args.rule c.args.at c.args.end) c.add.result c.reserve.ensures.facts c.add.ensures.added c.if-not-add.true in
    let same : c.add.new.self.facts ≡ c.self.inside.log.facts = c.add.ensures.facts ∙ ap (λ l. put l (End c.args.rule c.args.at c.args.end)) c.reserve.ensures.facts ∙ put-old c.self.inside.log.facts (End c.args.rule c.args.at c.args.end) there in
    consistent-ends_kept c.self.inside.log.facts c.add.new.self.facts c.self.inside.edges c.self.inside.ends c.self.inside.handed c.self.invariant c.place_for.new.map same c.place_for.ensures.kept

pub invariant_of-self-2 : goal.invariant_of-self-2
invariant_of-self-2 c =
    let none : has c.self.inside.log.facts (End c.args.rule c.args.at c.args.end) ≡ false = was-new c.self.inside.log.facts c.reserve.new.self.facts (End c.args.rule c.args.at c.args.end) c.add.result c.reserve.ensures.facts c.add.ensures.added c.if-not-add.false in
    let met : c.extend_from_slice.new.self.items ≡ edges_in c.self.inside.log.facts (cluster c.args.rule c.args.at) = search rules in
    consistent-end c.self.inside.log.facts c.add.new.self.facts c.self.inside.edges c.self.inside.ends c.self.inside.handed c.self.invariant c.place_for.new.map c.push_at.new.map c.args.rule c.args.at c.args.end c.len.result none (search rules) c.place_for.ensures.kept
    (c.push_at.ensures (cluster c.args.rule c.args.at) c.in_ok-place.ensures.place) (c.len.ensures.value ∙ ap length met)

pub overflow_add-self : goal.overflow_add-self
overflow_add-self c =
    let small : length c.self.inside.log.facts < FACT_LIMIT = omega (arith, c.in_ok-reserve.ensures.small, ap length c.in_ok-reserve.ensures.facts) in
    omega (arith, handed-small c.self.inside.log.facts small, c.self.invariant.kept.counted, c.len.type_inv)

pub returns-clause-step : goal.returns-clause-step
returns-clause-step c plan = step_from plan _ (AddEnd c.args.rule c.args.at c.args.end) (Meets c.extend_from_slice.new.self.items) c.add.new.self.facts (ap Meets (search rules)) (search rules)

pub returns-clause-sound : goal.returns-clause-sound
returns-clause-sound c plan count m sound closed here =
    let none : has c.self.inside.log.facts (End c.args.rule c.args.at c.args.end) ≡ false = was-new c.self.inside.log.facts c.reserve.new.self.facts (End c.args.rule c.args.at c.args.end) c.add.result c.reserve.ensures.facts c.add.ensures.added c.if-not-add.false in
    let met : c.extend_from_slice.new.self.items ≡ edges_in c.self.inside.log.facts (cluster c.args.rule c.args.at) = search rules in
    sound-end plan count m (record { log = c.self.inside.log.facts; handed = c.self.inside.handed }) (record { log = c.add.new.self.facts; handed = c.self.inside.handed + c.len.result }) c.args.rule c.args.at c.args.end c.extend_from_slice.new.self.items (search rules)
    (met ∙ sym (ap (λ b. cond b [] (edges_in c.self.inside.log.facts (cluster c.args.rule c.args.at))) none)) (ap (λ n. c.self.inside.handed + n) c.len.ensures.value) c.add.ensures.bounded here closed
    (subst (IsSoundBank plan count m) (sym c.self.view_is) sound)
