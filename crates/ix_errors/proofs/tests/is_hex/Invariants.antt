use Rattle.std.proofs.Common.{take}
use Rattle.std.specs.Prelude.{IsTrue}
use Rattle.std.specs.List.{AllByRecursion}
use Rattle.ix_model.specs.Spelling.Spells.{is_hex_digit}
use Rattle.ix_errors.proofs.tests.is_hex.Given as goal

abbrev pub invariant-loop-digit : goal.invariant-loop-digit
invariant-loop-digit l = AllByRecursion (λ d. IsTrue (is_hex_digit d)) (take l.digit-index l.digits)
