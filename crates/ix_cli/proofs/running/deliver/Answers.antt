use Rattle.std.proofs.Common.{refl, sym, subst}
use Rattle.ix_cli.specs.Delivered.{IsDelivered}
use Rattle.ix_cli.proofs.running.deliver.Goals as goal

pub returns-in-Err : goal.returns-in-Err
returns-in-Err g c =
    let old = g.O.Sink.written c.args.out.now in
    let count = g.O.Sink.faults c.args.out.now in
    subst (λ reply. IsDelivered old old count count (g.M.Sink.written c.args.msg.now) (g.M.Sink.written c.refuse.new.msg) (g.M.Sink.faults c.args.msg.now) (g.M.Sink.faults c.refuse.new.msg) reply c.refuse.result)
    (sym c.in-Err.is) (refl, c.refuse.ensures.line, c.refuse.ensures.read)
