use Rattle.std.proofs.Common.{arith, ◌≡◌, sym, ap, rules, [], List, length, subst}
use Rattle.ix_cluster.specs.Steps.{after_call}
use Rattle.ix_cluster.specs.declared.fact.Fact.{Fact}
use Rattle.ix_cluster.specs.Consistent.{EdgesAreCalled}
use Rattle.ix_cluster.proofs.CalledEdges.{called-call, called-none_yet}
use Rattle.ix_cluster.proofs.Handing.{handed-call}
use Rattle.ix_cluster.proofs.Listing.{AreListed-begin}
use Rattle.ix_cluster.specs.Room.{unclaimed_in}
use Rattle.ix_cluster.specs.Sound.{IsSoundBank}
use Rattle.ix_cluster.proofs.Soundness.{sound-begin}
use Rattle.ix_cluster.proofs.bank.Bank.begin.Goals as goal

pub invariant_of-result : goal.invariant_of-result
invariant_of-result c =
    let e : c.call.new.log.facts ≡ after_call c.args.plan.now [] 0 0 = search rules in
    record {
      kept = record {
        listed = AreListed-begin c.args.plan.now c.call.new.log.facts c.new.result c.new-2.result c.new.ensures.empty c.new-2.ensures.empty e;
        counted = rw e (sym (handed-call c.args.plan.now [] 0 0));
      };
      called = subst EdgesAreCalled (sym e) (called-call c.args.plan.now [] 0 0 called-none_yet);
    }

pub returns-clause-sound : goal.returns-clause-sound
returns-clause-sound c count m here =
    let e : c.call.new.log.facts ≡ after_call c.args.plan.now [] 0 0 = search rules in
    subst (λ (facts : List Fact). IsSoundBank c.args.plan.now count m (record { log = facts; handed = 0 })) (sym e)
    (sound-begin c.args.plan.now count m c.slot_count.ensures.planned here (omega (arith, ap length e, ap unclaimed_in e, c.len.ensures.len, c.len.ensures.small)))
