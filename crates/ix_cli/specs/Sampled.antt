-- What is answered where figures are asked for: they are, unless memory runs out.
-- Source: this project's own.
use Rattle.std.specs.Prelude.{◌≡◌, Result, Ok, Err}
use Rattle.ix_cli.specs.declared.answer.Answer.{Answer}
use Rattle.ix_cli.specs.declared.answer.Answer.TheVariants as answer
use Rattle.ix_cli.specs.declared.output.Output.{Output}

abbrev pub IsSampled : Result Output Answer → Type 0
IsSampled (Ok output) = output.status ≡ 0
IsSampled (Err a) = a ≡ answer.Memory
