use Rattle.std.proofs.Common.{◌≡◌, drop}
use Rattle.ix_spelling_laws.specs.Reading.Machine.{run, start}
use Rattle.ix_lex.specs.Spans.{AreTokens, lexed}
use Rattle.ix_reader.specs.Views.{state_of}
use Rattle.ix_reader.proofs.reader.parse.Given as goal

-- the tokens that are left give from here what all give from the beginning
abbrev pub invariant-loop-token : goal.invariant-loop-token
invariant-loop-token l = record {
  tokens : AreTokens l.chars l.last (drop l.token-index l.tokens);
  left : run (lexed l.chars l.last (drop l.token-index l.tokens)) (state_of l.state) ≡ run (lexed l.chars 0 l.tokens) start;
}
