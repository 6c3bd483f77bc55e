-- What a command of the code is among the commands of the command line: the same, with the bytes of its names.
-- Source: this project's own.
use Rattle.std.specs.Prelude.{string_bytes}
use Rattle.ix_model.specs.Answers.CommandLine.{Command as Asked, parse, check, sample}
use Rattle.ix_words.specs.declared.command.Command.{Command}
use Rattle.ix_words.specs.declared.command.Command.TheVariants as command

abbrev pub asked : Command → Asked
asked (command.Parse grammar text workers) = parse (string_bytes grammar) (string_bytes text) workers
asked (command.Check grammar) = check (string_bytes grammar)
asked (command.Sample n workers) = sample n workers
