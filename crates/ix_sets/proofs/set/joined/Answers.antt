use Rattle.std.proofs.lemmas.Result.{IfOk-weaker}
use Rattle.ix_sets.proofs.Choosing.{members_held}
use Rattle.ix_sets.proofs.set.joined.Goals as goal

pub returns : goal.returns
returns c =
    IfOk-weaker _ _ _
    (members_held c.args.members.now c.new-ranges.result.items c.new-ranges.ensures.items c.push_members.new.ranges.items c.in_ok-push_members.ensures)
    c.new.ensures
