-- What a subcommand is added as.
-- Source: this project's own, by the commands of `clap`.
use Rattle.std.specs.Prelude.{◌≡◌}
use Rattle.clap.specs.Words.{AddsSubcommand, App, app_of, with_subcommand}
use Rattle.clap.specs.declared.builder.command.Command.{Command}

-- any command to which the subcommand is added has it as this one from then on
abbrev pub AddsAs : Command → App → Type 0
AddsAs subcommand app = (old new : Command) → AddsSubcommand old subcommand new → app_of new ≡ with_subcommand (app_of old) app.top
