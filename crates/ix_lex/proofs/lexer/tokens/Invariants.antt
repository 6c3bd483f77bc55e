use Rattle.std.proofs.Common.{◌-◌, length}
use Rattle.ix_lex.specs.Turns.{AreTokensBefore}
use Rattle.ix_lex.proofs.lexer.tokens.Given as goal

abbrev pub invariant-loop-at : goal.invariant-loop-at
invariant-loop-at l = AreTokensBefore l.chars l.tokens.items l.at

abbrev pub decreases-loop-at : goal.decreases-loop-at
decreases-loop-at l = length l.chars - l.at
