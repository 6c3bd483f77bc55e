use Rattle.std.proofs.Common.{arith}
use Rattle.ix_lex.specs.declared.token.Tok.TheVariants.{Word}
use Rattle.ix_lex.specs.declared.token.Token.{Token}
use Rattle.ix_lex.specs.Spans.{lexed}
use Rattle.ix_reader.specs.Parentheses.{deepest}
use Rattle.ix_reader.proofs.Turns.{few_tokens, next_deepest, turned_little}
use Rattle.ix_reader.proofs.reader.deepest.Goals as goal

pub turn-open-requires-clause-few : goal.turn-open-requires-clause-few
turn-open-requires-clause-few c = omega (arith, few_tokens c.args.chars.now c.args.tokens.now c.requires.tokens)

pub loop-token-preserved : goal.loop-token-preserved
loop-token-preserved c =
    let i = c.loop-token.invariant in
    let little = turned_little c.loop-token.open c.turn-open.result _ c.turn-open.ensures in
    let no_token : Token = record { kind = Word; low = 0; high = 0 } in
    record {
      within = omega (arith, little, i.within);
      left = next_deepest c.args.chars.now c.args.tokens.now no_token i.left.0 c.loop-token.token-index c.loop-token.open c.loop-token.most c.turn-open.result c.max-most.result (deepest 0 (lexed c.args.chars.now 0 c.args.tokens.now)) c.loop-token-test.true i.left.1 c.turn-open.ensures c.max-most.ensures i.left.2;
    }
