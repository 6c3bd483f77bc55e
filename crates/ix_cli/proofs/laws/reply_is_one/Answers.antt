use Rattle.ix_cli.proofs.OneReply.{one_reply}
use Rattle.ix_cli.proofs.laws.reply_is_one.Goals as goal

pub returns : goal.returns
returns c = one_reply
