use Rattle.ix_sets.proofs.Gaining.{gains_range}
use Rattle.ix_sets.proofs.members.push_range.Goals as goal

pub returns : goal.returns
returns c = gains_range c.args.low c.args.high c.in_ok-push.ensures.items
