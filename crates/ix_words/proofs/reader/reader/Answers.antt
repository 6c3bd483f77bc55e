use Rattle.std.proofs.Common.{◌≡◌, ◌∙◌, ap, true, codes}
use Rattle.std.proofs.lemmas.Result.{IfOk-weaker}
use Rattle.clap.specs.Words.{App, app_of, with_subcommand}
use Rattle.clap.specs.Simple.{app_of_fields}
use Rattle.ix_words.specs.ReaderApp.{bare_app, subcommand_app}
use Rattle.ix_words.proofs.reader.reader.Goals as goal

pub returns : goal.returns
returns c =
    let unnamed = ap app_of_fields c.no_binary_name.ensures ∙ ap (λ (a : App). record a { top = record a.top { no_binary_name = true } }) c.new.ensures.app in
    let flagless = ap app_of_fields c.disable_help_flag.ensures ∙ ap (λ (a : App). record a { top = record a.top { disable_help_flag = true } }) unnamed in
    let bare : app_of c.disable_help_subcommand.result ≡ bare_app =
    ap app_of_fields c.disable_help_subcommand.ensures ∙ ap (λ (a : App). record a { top = record a.top { disable_help_subcommand = true } }) flagless in
    let one = c.in_ok-command_named.ensures _ _ c.in_ok-subcommand.ensures ∙ ap (λ a. with_subcommand a (subcommand_app (codes "parse")).top) bare in
    let two = c.in_ok-command_named-2.ensures _ _ c.in_ok-subcommand-2.ensures ∙ ap (λ a. with_subcommand a (subcommand_app (codes "check")).top) one in
    IfOk-weaker c.subcommand-3.result _ _ (λ reader adds. c.in_ok-command_named-3.ensures _ _ adds ∙ ap (λ a. with_subcommand a (subcommand_app (codes "sample")).top) two) c.subcommand-3.ensures
