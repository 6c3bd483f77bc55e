use Rattle.std.proofs.Common.{◌≡◌, drop}
use Rattle.std.specs.Prelude.{option_map}
use Rattle.ix_spelling_laws.specs.Reading.Lexing.{quoted}
use Rattle.ix_lex.proofs.Quoting.{left}
use Rattle.ix_lex.proofs.strings.string_len.Given as goal

abbrev pub invariant-loop-at : goal.invariant-loop-at
invariant-loop-at l = option_map (λ v. v.1) (left l.pending l.q (drop l.at l.text)) ≡ option_map (λ v. v.1) (quoted l.q l.text)
