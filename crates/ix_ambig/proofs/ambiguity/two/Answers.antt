use Rattle.ix_subtrees.proofs.WrittenUses.{ambiguous_two_ways, two_ways_ambiguous}
use Rattle.ix_ambig.proofs.TwoWays.{two_ways_of_two, two_of_two_ways}
use Rattle.ix_ambig.proofs.ambiguity.two.Goals as goal

pub returns-clause-numbered : goal.returns-clause-numbered
returns-clause-numbered c =
    (λ h. two_ways_of_two c.args.plan.now c.args.set.now c.requires (c.has_two.ensures.0 h), λ h. c.has_two.ensures.1 (two_of_two_ways c.args.plan.now c.args.set.now c.requires c.slot_count.ensures.planned h))

pub returns-clause-written : goal.returns-clause-written
returns-clause-written c = λ g p. (
  λ h. two_ways_ambiguous g c.args.plan.now p c.slot_count.ensures.planned (two_ways_of_two c.args.plan.now c.args.set.now c.requires (c.has_two.ensures.0 h)),
  λ h. c.has_two.ensures.1 (two_of_two_ways c.args.plan.now c.args.set.now c.requires c.slot_count.ensures.planned (ambiguous_two_ways g c.args.plan.now p c.slot_count.ensures.planned h)),
)
