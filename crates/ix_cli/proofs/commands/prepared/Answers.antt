use Rattle.std.proofs.Common.{◌≡◌, ap, map, string_bytes, Err}
use Rattle.ix_model.specs.Answers.CommandLine.{sample}
use Rattle.ix_words.specs.Asked.{asked}
use Rattle.ix_cli.specs.declared.answer.Answer.TheVariants as answer
use Rattle.ix_cli.specs.Means.{of_words}
use Rattle.ix_cli.specs.Refused.{IsRefused}
use Rattle.ix_cli.proofs.Replies.{words_refused, words_wanting, command_prepared, command_refused, handed_on}
use Rattle.ix_cli.proofs.commands.prepared.Goals as goal

pub returns-in_err-command-clause-err : goal.returns-in_err-command-clause-err
returns-in_err-command-clause-err g c =
    let words = map string_bytes c.args.words.now in
    let told = g.F.Files.told c.args.files.now in
    let count = g.F.Files.faults c.args.files.now in
    let f = c.in_err-command.field-0.0 in
    handed_on c.from_residual.result (IsRefused words told count count) (of_words f) c.from_residual.ensures.1 (words_refused words told count count f (λ e. c.in_err-command.ensures.no_form (ap Err e)))

pub returns-in_err-command-clause-sample : goal.returns-in_err-command-clause-sample
returns-in_err-command-clause-sample g c = λ lines workers is.
    let f = c.in_err-command.field-0.0 in
    handed_on c.from_residual.result (λ a. a ≡ answer.Memory) (of_words f) c.from_residual.ensures.1
    (words_wanting (map string_bytes c.args.words.now) f (λ e. c.in_err-command.ensures.no_form (ap Err e)) (sample lines workers, is))

pub returns-clause-ok : goal.returns-clause-ok
returns-clause-ok g c =
    command_prepared (map string_bytes c.args.words.now) (asked c.in_ok-command.command) c.in_ok-command.ensures.ok (g.F.Files.told c.args.files.now) c.prepared_for.result c.prepared_for.ensures.ok

pub returns-clause-err : goal.returns-clause-err
returns-clause-err g c =
    command_refused (map string_bytes c.args.words.now) (asked c.in_ok-command.command) c.in_ok-command.ensures.ok (g.F.Files.told c.args.files.now) (g.F.Files.faults c.args.files.now) (g.F.Files.faults c.prepared_for.new.files)
    c.prepared_for.result c.prepared_for.ensures.err
