use Rattle.ix_cli.proofs.LoadedFiles.{loaded_is}
use Rattle.ix_cli.proofs.load.load.Goals as goal

pub returns-in-Ok-clause-ok : goal.returns-in-Ok-clause-ok
returns-in-Ok-clause-ok g c = loaded_is c.args.name.now c.args.most c.in-Ok.bytes (g.F.Files.told c.args.files.now) c.in-Ok.ensures.bytes
