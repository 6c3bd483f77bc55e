use Rattle.std.proofs.Common.{◌≡◌, drop}
use Rattle.std.specs.Prelude.{option_map}
use Rattle.ix_spelling_laws.specs.Reading.Lexing.{quoted}
use Rattle.ix_lex.proofs.Quoting.{onto, left}
use Rattle.ix_lex.proofs.strings.unescaped.Given as goal

abbrev pub invariant-loop-at : goal.invariant-loop-at
invariant-loop-at l = option_map (onto l.chars.items) (left l.pending l.q (drop l.at l.text)) ≡ quoted l.q l.text
