use Rattle.std.proofs.Common.{subst, map, string_bytes}
use Rattle.ix_cli.specs.Prepared.{IsPreparedFor}
use Rattle.ix_cli.proofs.Preparing.{unprepared_replied, output_replied, text_replied, fault_replied}
use Rattle.ix_cli.proofs.running.reply_alone.Goals as goal

pub returns-in_err-output-clause-replied : goal.returns-in_err-output-clause-replied
returns-in_err-output-clause-replied g c =
    unprepared_replied (map string_bytes c.args.words.now) (g.F.Files.told c.args.files.now) (g.F.Files.faults c.args.files.now) (g.F.Files.faults c.prepared.new.files) c.from_residual.result
    c.in_err-output.field-0.0 c.from_residual.ensures.1 c.in_err-output.ensures.err c.in_err-output.ensures.sample

pub returns-in_err-output_of-in-Parse-clause-replied : goal.returns-in_err-output_of-in-Parse-clause-replied
returns-in_err-output_of-in-Parse-clause-replied g c =
    let told = g.F.Files.told c.args.files.now in
    let p = c.in_ok-output.ensures.ok in
    fault_replied (map string_bytes c.args.words.now) told (g.F.Files.faults c.args.files.now) (g.F.Files.faults c.prepared.new.files) c.in-Parse.task p.0 p.1 c.in_err-output_of-in-Parse.field-0.0
    c.from_residual-in_err-output_of-in-Parse.result c.from_residual-in_err-output_of-in-Parse.ensures.1 (subst (IsPreparedFor told p.0) c.in-Parse.is p.2) c.in_err-output_of-in-Parse.ensures.err

pub returns-in-Output-clause-replied : goal.returns-in-Output-clause-replied
returns-in-Output-clause-replied g c =
    let told = g.F.Files.told c.args.files.now in
    let p = c.in_ok-output.ensures.ok in
    output_replied (map string_bytes c.args.words.now) told (g.F.Files.faults c.args.files.now) (g.F.Files.faults c.prepared.new.files) p.0 p.1 c.in-Output.output (subst (IsPreparedFor told p.0) c.in-Output.is p.2)

pub returns-in_ok-output_of-in-Parse-clause-replied : goal.returns-in_ok-output_of-in-Parse-clause-replied
returns-in_ok-output_of-in-Parse-clause-replied g c =
    let told = g.F.Files.told c.args.files.now in
    let p = c.in_ok-output.ensures.ok in
    text_replied (map string_bytes c.args.words.now) told (g.F.Files.faults c.args.files.now) (g.F.Files.faults c.prepared.new.files) c.in-Parse.task p.0 p.1 c.in_ok-output_of-in-Parse.field-0
    (subst (IsPreparedFor told p.0) c.in-Parse.is p.2) c.in_ok-output_of-in-Parse.ensures.status c.in_ok-output_of-in-Parse.ensures.ok
