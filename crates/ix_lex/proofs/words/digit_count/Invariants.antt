use Rattle.std.proofs.Common.{◌≡◌, length, ◌+◌, drop}
use Rattle.ix_spelling_laws.specs.Reading.Lexing.{digits_of}
use Rattle.ix_lex.proofs.words.digit_count.Given as goal

abbrev pub invariant-loop-n : goal.invariant-loop-n
invariant-loop-n l = length (digits_of l.text).0 ≡ l.n + length (digits_of (drop l.n l.text)).0
