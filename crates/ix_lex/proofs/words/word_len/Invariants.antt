use Rattle.std.proofs.Common.{◌≡◌, length, ◌+◌, drop}
use Rattle.ix_spelling_laws.specs.Reading.Lexing.{word_of}
use Rattle.ix_lex.proofs.words.word_len.Given as goal

abbrev pub invariant-loop-n : goal.invariant-loop-n
invariant-loop-n l = length (word_of l.text).0 ≡ l.n + length (word_of (drop l.n l.text)).0
