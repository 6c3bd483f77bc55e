use Rattle.std.proofs.Common.{take}
use Rattle.ix_model.specs.Grammars.Names.{AreNumbersOf, names_of}
use Rattle.ix_model.proofs.names.numbers_of.Given as goal

abbrev pub invariant-loop-number : goal.invariant-loop-number
invariant-loop-number l = AreNumbersOf l.numbers (names_of (take l.number l.rules))
