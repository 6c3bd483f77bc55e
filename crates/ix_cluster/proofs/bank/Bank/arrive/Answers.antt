use Rattle.std.proofs.Common.{cond, IfOk, Result, ap, refl, ◌≡◌, ◌∙◌, sym, subst, rules}
use Rattle.ix_cluster.specs.Steps.{after_arrival}
use Rattle.std.specs.declared.alloc.AllocError.{AllocError}
use Rattle.ix_cluster.specs.declared.answers.Arrived.{Arrived}
use Rattle.ix_cluster.specs.declared.answers.Arrived.TheVariants.{Fresh, Known}
use Rattle.ix_cluster.specs.BankSteps.{BankStep, Arrive, Arrives}
use Rattle.ix_cluster.specs.Consistent.{EdgesAreCalled}
use Rattle.ix_cluster.proofs.CalledEdges.{called-arrive}
use Rattle.ix_cluster.proofs.Handing.{handed-arrive}
use Rattle.ix_cluster.proofs.Listing.{AreListed-arrive}
use Rattle.ix_cluster.specs.Seen.{Bank}
use Rattle.ix_cluster.specs.Sound.{IsSoundBank}
use Rattle.ix_cluster.proofs.Soundness.{sound-arrival}
use Rattle.ix_cluster.proofs.StepCases.{arrival_told, step_from}
use Rattle.ix_cluster.proofs.bank.Bank.arrive.Goals as goal
use Rattle.ix_cluster.proofs.bank.Bank.arrive.Goals.{then-add_descriptor, else-add_descriptor}

pub invariant_of-self-2 : goal.invariant_of-self-2
invariant_of-self-2 c =
    let e : c.add_descriptor.new.self.facts ≡ after_arrival c.self.inside.log.facts c.args.sub = search rules in
    record {
      kept = record {
        listed = AreListed-arrive c.self.inside.log.facts c.self.inside.edges c.self.inside.ends c.self.invariant.kept.listed c.add_descriptor.new.self.facts c.args.sub e;
        counted = rw e (c.self.invariant.kept.counted ∙ sym (handed-arrive c.self.inside.log.facts c.args.sub));
      };
      called = subst EdgesAreCalled (sym e) (called-arrive c.self.inside.log.facts c.args.sub c.self.invariant.called);
    }

pub returns-clause-step : goal.returns-clause-step
returns-clause-step c plan =
    let log = c.args.self.now.log in
    let room : c.reserve.new.self.facts ≡ log = c.reserve.ensures.facts ∙ ap (λ (z : Bank). z.log) c.self.view_is in
    let told = arrival_told plan log c.reserve.new.self.facts c.add.new.self.facts c.args.sub c.add_descriptor.result room c.add.ensures.facts c.add_descriptor.ensures.added in
    elim c.if-add_descriptor.branch [
      | then-add_descriptor w ↦
          subst (λ (z : Result Arrived AllocError). IfOk z (λ answer. BankStep plan log (Arrive c.args.sub) (Arrives answer) c.add_descriptor.new.self.facts)) (sym w.result-is)
          (step_from plan log (Arrive c.args.sub) (Arrives Fresh) c.add_descriptor.new.self.facts (ap Arrives (ap (λ b. cond b Fresh Known) (sym w.if-add_descriptor.true) ∙ told)) (search rules))
      | else-add_descriptor w ↦
          subst (λ (z : Result Arrived AllocError). IfOk z (λ answer. BankStep plan log (Arrive c.args.sub) (Arrives answer) c.add_descriptor.new.self.facts)) (sym w.result-is)
          (step_from plan log (Arrive c.args.sub) (Arrives Known) c.add_descriptor.new.self.facts (ap Arrives (ap (λ b. cond b Fresh Known) (sym w.if-add_descriptor.false) ∙ told)) (search rules))
    ]

pub returns-clause-sound : goal.returns-clause-sound
returns-clause-sound c plan count m sound closed here =
    sound-arrival plan count m (record { log = c.self.inside.log.facts; handed = c.self.inside.handed }) (record { log = c.add_descriptor.new.self.facts; handed = c.self.inside.handed }) c.args.sub (search rules) refl c.add_descriptor.ensures.bounded here closed
    (subst (IsSoundBank plan count m) (sym c.self.view_is) sound)
