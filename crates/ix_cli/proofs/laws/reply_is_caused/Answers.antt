use Rattle.ix_cli.proofs.Caused.{reply_caused}
use Rattle.ix_cli.proofs.laws.reply_is_caused.Goals as goal

pub returns : goal.returns
returns c = reply_caused
