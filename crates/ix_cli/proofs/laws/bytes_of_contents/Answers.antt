use Rattle.std.proofs.Common.{◌≡◌, sym, ap, ◌∙◌, length, codes, arith}
use Rattle.ix_cli.proofs.SmallContents.{a_has, a_has_only}
use Rattle.ix_cli.proofs.laws.bytes_of_contents.Goals as goal

pub returns-clause-bytes : goal.returns-clause-bytes
returns-clause-bytes c v e = e

pub returns-clause-other_bytes : goal.returns-clause-other_bytes
returns-clause-other_bytes c v e h = let f : 2 ≡ 3 = ap length (sym e ∙ h) in omega (arith, f)

pub returns-clause-document : goal.returns-clause-document
returns-clause-document c v = a_has v

pub returns-clause-not_the_buffer : goal.returns-clause-not_the_buffer
returns-clause-not_the_buffer c v e h = let f : 5 ≡ 9 = ap length (a_has_only v (codes "<S/>\n") h) in omega (arith, f)

pub returns-clause-shorter : goal.returns-clause-shorter
returns-clause-shorter c v h = let f : 8 ≡ 9 = ap length (a_has_only v (codes "<S>a</S>") h) in omega (arith, f)
