use Rattle.std.proofs.Common.{◌≡◌, ◌≤◌, drop}
use Rattle.std.specs.Prelude.{ℕ, max}
use Rattle.ix_lex.specs.Spans.{AreTokens, lexed}
use Rattle.ix_reader.specs.Parentheses.{deepest}
use Rattle.ix_reader.proofs.reader.deepest.Given as goal

abbrev pub invariant-loop-token : goal.invariant-loop-token
invariant-loop-token l = record {
  within : l.open ≤ l.token-index;
  left : (from : ℕ) × AreTokens l.chars from (drop l.token-index l.tokens) × (max l.most (deepest l.open (lexed l.chars from (drop l.token-index l.tokens))) ≡ deepest 0 (lexed l.chars 0 l.tokens));
}
