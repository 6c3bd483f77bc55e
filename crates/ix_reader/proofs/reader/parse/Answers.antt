use Rattle.ix_reader.proofs.Turns.{next_string}
use Rattle.ix_reader.proofs.reader.parse.Goals as goal

pub behind-requires-clause-string : goal.behind-requires-clause-string
behind-requires-clause-string c = next_string c.args.chars.now c.args.tokens.now _ c.loop-token.last c.loop-token.token-index c.loop-token-test.true c.loop-token.invariant.tokens
