use Rattle.std.proofs.Common.{rules, ap, refl, ◌∙◌, sym, subst}
use Rattle.ix_cluster.specs.BankSteps.{MakeClaim, Belongs}
use Rattle.ix_cluster.specs.Consistent.{EdgesAreCalled}
use Rattle.ix_cluster.proofs.CalledEdges.{called-claim}
use Rattle.ix_cluster.proofs.Handing.{handed-claim}
use Rattle.ix_cluster.proofs.Listing.{AreListed-claim}
use Rattle.ix_cluster.specs.Sound.{IsSoundBank}
use Rattle.ix_cluster.proofs.Soundness.{sound-claim}
use Rattle.ix_cluster.proofs.StepCases.{step_from}
use Rattle.ix_cluster.proofs.bank.Bank.claim.Goals as goal

pub invariant_of-self : goal.invariant_of-self
invariant_of-self c = record {
  kept = record {
    listed = AreListed-claim c.self.inside.log.facts c.self.inside.edges c.self.inside.ends c.self.invariant.kept.listed c.claim.new.self.facts c.args.slot c.args.left c.args.pos c.claim.ensures.facts;
    counted = rw c.claim.ensures.facts (c.self.invariant.kept.counted ∙ sym (handed-claim c.self.inside.log.facts c.args.slot c.args.left c.args.pos));
  };
  called = subst EdgesAreCalled (sym c.claim.ensures.facts) (called-claim c.self.inside.log.facts c.args.slot c.args.left c.args.pos c.self.invariant.called);
}

pub returns-clause-step : goal.returns-clause-step
returns-clause-step c plan = step_from plan _ (MakeClaim c.args.slot c.args.left c.args.pos) (Belongs c.claim.result) c.claim.new.self.facts (ap Belongs (search rules)) (search rules)

pub returns-clause-sound : goal.returns-clause-sound
returns-clause-sound c plan count m sound =
    sound-claim plan count m (record { log = c.self.inside.log.facts; handed = c.self.inside.handed }) (record { log = c.claim.new.self.facts; handed = c.self.inside.handed }) c.args.slot c.args.left c.args.pos c.claim.ensures.facts refl c.claim.ensures.bounded
    (subst (IsSoundBank plan count m) (sym c.self.view_is) sound)
