use Rattle.std.proofs.lemmas.Result.{IfOk-weaker}
use Rattle.ix_subtrees.specs.Entries.{SameMembers}
use Rattle.ix_subtrees.specs.Sets.{AreWays}
use Rattle.ix_subtrees.proofs.Gathering.{ways_are}
use Rattle.ix_subtrees.proofs.set.ways_kept.Goals as goal

pub returns-clause-ways : goal.returns-clause-ways
returns-clause-ways c =
    IfOk-weaker c.of.result (λ es. SameMembers es c.in_ok-ways_of.field-0.items) (λ es. AreWays c.args.plan.now es)
    (λ es s. ways_are c.args.plan.now c.args.kept.now c.requires c.in_ok-ways_of.field-0.items es c.in_ok-ways_of.ensures s) c.of.ensures.same
