-- What `clap` is asked to read.
-- Source: this project's own.
use Rattle.std.specs.Prelude.{List, ℕ, true, Some, codes}
use Rattle.clap.specs.Words.{App, Rule, new_app, new_rule, with_rule, with_subcommand}
use Rattle.clap.specs.declared.builder.action.ArgAction.TheVariants.{Append}

-- any number of operands, in order
abbrev pub operand_rule : Rule
operand_rule = record (new_rule (codes "operand")) { action = Some Append }

-- any number of values of `--workers`, in order
abbrev pub workers_rule : Rule
workers_rule = record (new_rule (codes "workers")) { long = Some (codes "workers"); action = Some Append }

-- a command with both
abbrev pub subcommand_app : List ℕ → App
subcommand_app name = with_rule (with_rule (new_app name) operand_rule) workers_rule

-- no command yet, without the program's name in front and without help
abbrev pub bare_app : App
bare_app = record (new_app (codes "ixml")) {
  top = record (new_app (codes "ixml")).top { no_binary_name = true; disable_help_flag = true; disable_help_subcommand = true };
}

-- the three commands
abbrev pub reader_app : App
reader_app =
    with_subcommand (with_subcommand (with_subcommand bare_app (subcommand_app (codes "parse")).top) (subcommand_app (codes "check")).top) (subcommand_app (codes "sample")).top
