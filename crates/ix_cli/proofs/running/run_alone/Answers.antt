use Rattle.std.proofs.Common.{map, string_bytes}
use Rattle.ix_cli.proofs.Delivering.{run_is}
use Rattle.ix_cli.proofs.running.run_alone.Goals as goal

pub returns : goal.returns
returns g c = run_is (map string_bytes c.args.words.now) _ _ c.reply_alone.ensures.same c.reply_alone.ensures.later c.deliver.result c.reply_alone.result c.reply_alone.ensures.replied c.deliver.ensures
