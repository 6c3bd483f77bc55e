use Rattle.ix_cli.proofs.Outputs.{failed_written}
use Rattle.ix_cli.proofs.output.failed_output.Goals as goal

pub returns-clause-ok : goal.returns-clause-ok
returns-clause-ok c = failed_written c.args.offset c.args.line c.args.column c.in_ok-failed_bytes.field-0 c.in_ok-failed_bytes.ensures
