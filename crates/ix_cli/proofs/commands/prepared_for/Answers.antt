use Rattle.std.proofs.Common.{◌≡◌, ap, sym, subst, IfOk}
use Rattle.ix_model.specs.Answers.CommandLine.{sample}
use Rattle.ix_words.specs.Asked.{asked}
use Rattle.ix_cli.specs.Prepared.{IsPreparedFor}
use Rattle.ix_cli.proofs.commands.prepared_for.Goals as goal

pub returns-in-Sample-clause-ok : goal.returns-in-Sample-clause-ok
returns-in-Sample-clause-ok g c =
    let told = g.F.Files.told c.args.files.now in
    let e : sample c.in-Sample.n c.in-Sample.workers ≡ asked c.args.command.now = sym (ap asked c.in-Sample.is) in
    subst (λ command. IfOk c.sampled.result (IsPreparedFor told command)) e (c.sampled.ensures.ok told)
