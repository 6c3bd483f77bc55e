use Rattle.std.proofs.Common.{map, string_bytes}
use Rattle.ix_cli.proofs.Delivering.{run_is}
use Rattle.ix_cli.proofs.running.run.Goals as goal

pub returns : goal.returns
returns g c = run_is (map string_bytes c.args.words.now) _ _ c.reply.ensures.same c.reply.ensures.later c.deliver.result c.reply.result c.reply.ensures.replied c.deliver.ensures
