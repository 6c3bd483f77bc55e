use Rattle.std.proofs.Common.{rules, ◌≡◌, ◌∙◌, ap, ap₂, false, ◌||◌}
use Rattle.std.proofs.lemmas.Result.{IfOk-weaker}
use Rattle.clap.specs.Words.{App, app_of, rule_of, with_rule, with_subcommand}
use Rattle.ix_words.specs.ReaderApp.{operand_rule, subcommand_app, workers_rule}
use Rattle.ix_words.proofs.reader.command_named.Goals as goal

pub returns : goal.returns
returns c =
    let local : c.action-operand.result.global ≡ false = search rules in
    let local_too : c.action-workers.result.global ≡ false = search rules in
    let operand : rule_of c.action-operand.result ≡ operand_rule = search rules in
    let workers : rule_of c.action-workers.result ≡ workers_rule = search rules in
    let first = c.in_ok-arg.ensures in
    IfOk-weaker c.arg-2.result _ _ (λ command second old new adds.
    let app : app_of command ≡ subcommand_app c.args.name.now = second.shape local_too ∙ ap₂ with_rule (first.shape local ∙ ap₂ with_rule c.new-3.ensures.app operand) workers in
    adds.shape (second.globals ∙ ap₂ (λ a b. a || b) (first.globals ∙ ap₂ (λ a b. a || b) c.new-3.ensures.local local) local_too)
    ∙ ap (λ (a : App). with_subcommand (app_of old) a.top) app) c.arg-2.ensures
