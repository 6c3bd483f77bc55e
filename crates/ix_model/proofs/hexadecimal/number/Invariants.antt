use Rattle.std.proofs.Common.{◌≡◌, ◌≤◌, drop}
use Rattle.std.specs.Prelude.{IsTrue}
use Rattle.std.specs.List.{AllByRecursion}
use Rattle.ix_model.specs.Matching.Codes.{code_value}
use Rattle.std.specs.Str.Parse.{digits_value_after}
use Rattle.ix_model.specs.Spelling.Spells.{is_hex_digit}
use Rattle.ix_model.proofs.hexadecimal.number.Given as goal

-- what is read so far, and that what is left are digits
abbrev pub invariant-loop-digit : goal.invariant-loop-digit
invariant-loop-digit l = record {
  small : l.number ≤ 1114111;
  value : digits_value_after 16 l.number (drop l.digit-index l.digits) ≡ code_value l.digits;
  digits : AllByRecursion (λ d. IsTrue (is_hex_digit d)) (drop l.digit-index l.digits);
}
