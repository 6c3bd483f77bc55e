use Rattle.std.proofs.Common.{sym, ◌∙◌, subst}
use Rattle.ix_cli.specs.Says.{Says}
use Rattle.ix_cli.proofs.Statuses.{named_file}
use Rattle.ix_cli.proofs.telling.refuse.Goals as goal

pub returns-in-Ok-clause-read : goal.returns-in-Ok-clause-read
returns-in-Ok-clause-read g c = λ e.
    let says = Says (g.M.Sink.written c.args.msg.now) (g.M.Sink.written c.tell.new.msg) (g.M.Sink.faults c.args.msg.now) (g.M.Sink.faults c.tell.new.msg) in
    named_file c.args.answer.now says (sym c.status.ensures ∙ e) (subst says (c.deref.ensures.value ∙ c.in-Ok.ensures) c.tell.ensures)
