use Rattle.std.proofs.lemmas.Result.{IfOk-weaker}
use Rattle.ix_subtrees.specs.Entries.{SameMembers}
use Rattle.ix_subtrees.specs.Sets.{AreAlts}
use Rattle.ix_subtrees.proofs.Gathering.{alts_are}
use Rattle.ix_subtrees.proofs.Meaning.{useful_below}
use Rattle.ix_subtrees.proofs.set.alts_kept.Goals as goal

pub alts_of-requires-clause-slots : goal.alts_of-requires-clause-slots
alts_of-requires-clause-slots c = useful_below c.args.plan.now c.requires.planned c.args.kept.now c.requires.useful

pub returns : goal.returns
returns c =
    IfOk-weaker c.of.result (λ es. SameMembers es c.in_ok-alts_of.field-0.items) (λ es. AreAlts c.args.plan.now es)
    (λ es s. alts_are c.args.plan.now c.args.kept.now c.requires.useful c.in_ok-alts_of.field-0.items es c.in_ok-alts_of.ensures s) c.of.ensures.same
