use Rattle.std.proofs.Common.{sym, ap, ◌∙◌}
use Rattle.ix_reader.specs.Outline.{whether}
use Rattle.ix_reader.specs.Views.{state_of}
use Rattle.ix_reader.proofs.Outlines.{run_alike}
use Rattle.ix_reader.proofs.Turns.{next_string, next_tokens, next_run}
use Rattle.ix_reader.proofs.reader.recognise.Goals as goal

pub behind-requires-clause-string : goal.behind-requires-clause-string
behind-requires-clause-string c = next_string c.args.chars.now c.args.tokens.now _ c.loop-token.last c.loop-token.token-index c.loop-token-test.true c.loop-token.invariant.tokens

pub loop-token-preserved : goal.loop-token-preserved
loop-token-preserved c =
    let h = next_tokens c.args.chars.now c.args.tokens.now _ c.loop-token.last c.loop-token.token-index c.loop-token-test.true c.loop-token.invariant.tokens in
    record {
      tokens = h.5;
      left =
          run_alike _ (state_of c.emptied-state.result) (state_of c.in_ok-behind.field-0) c.emptied-state.ensures.same
          ∙ ap whether (sym (next_run c.args.chars.now c.args.tokens.now _ c.loop-token.last c.loop-token.token-index (state_of c.loop-token.state) (state_of c.in_ok-behind.field-0) c.loop-token-test.true c.in_ok-behind.ensures))
          ∙ c.loop-token.invariant.left;
    }
