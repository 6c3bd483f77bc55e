use Rattle.ix_lex.proofs.Scanning.{Spaces}
use Rattle.ix_lex.proofs.spacing.spacing_len.Given as goal

abbrev pub invariant-loop-at : goal.invariant-loop-at
invariant-loop-at l = Spaces l.text l.depth l.saved l.at
