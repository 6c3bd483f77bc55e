use Rattle.std.proofs.Common.{rules, ◌≡◌, ◌+◌, ◌*◌, drop, arith}
use Rattle.std.proofs.lemmas.List.{drop_more}
use Rattle.ix_model.specs.Matching.Codes.{code_value}
use Rattle.std.specs.Str.Parse.{digits_value_after}
use Rattle.ix_model.proofs.HexDigits.{value_grows}
use Rattle.ix_model.proofs.hexadecimal.number.Goals as goal

-- the number is too great already, and what is left makes it no less
pub returns-then-number-clause-none : goal.returns-then-number-clause-none
returns-then-number-clause-none c =
    let rest = drop (c.loop-digit.digit-index + 1) c.args.digits.now in
    let now = c.loop-digit.number * 16 + c.value.result in
    let split = drop_more c.args.digits.now c.loop-digit.digit-index c.digit-item.result c.loop-digit-test.true in
    let whole : digits_value_after 16 now rest ≡ code_value c.args.digits.now = search (rules, split, c.digit-item.is, c.value.ensures.value, c.loop-digit.invariant.value) in
    let grown = value_grows now rest in
    λ _. omega (arith, grown, whole, c.if-number.true)
