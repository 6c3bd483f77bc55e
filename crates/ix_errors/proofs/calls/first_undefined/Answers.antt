use Rattle.ix_errors.specs.Firsts.{IsAmong}
use Rattle.ix_errors.specs.Mentions.{call_in}
use Rattle.ix_errors.proofs.Searching.{found_at}
use Rattle.ix_errors.proofs.calls.first_undefined.Goals as goal

pub returns-in-Some : goal.returns-in-Some
returns-in-Some c = found_at (IsAmong c.args.names.now) call_in c.args.mentions.now c.loop-mention.mention-index c.mention-item.result c.in-Some.name.now c.loop-mention-test.true c.mention-item.is c.loop-mention.invariant c.in-Some.ensures
