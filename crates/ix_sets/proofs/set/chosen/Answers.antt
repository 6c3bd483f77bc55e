use Rattle.std.proofs.lemmas.Result.{IfOk-weaker}
use Rattle.ix_sets.proofs.Choosing.{own_held, others_held}
use Rattle.ix_sets.proofs.set.chosen.Goals as goal

pub returns-then-exclude : goal.returns-then-exclude
returns-then-exclude c =
    IfOk-weaker _ _ _
    (others_held c.args.exclude c.if-exclude.true c.args.members.now c.in_ok-characters.characters c.in_ok-members.members c.in_ok-characters.ensures c.in_ok-members.ensures)
    c.difference.ensures

pub returns : goal.returns
returns c =
    IfOk-weaker _ _ _
    (own_held c.args.exclude c.if-exclude.false c.args.members.now c.in_ok-characters.characters c.in_ok-members.members c.in_ok-characters.ensures c.in_ok-members.ensures)
    c.intersection.ensures
