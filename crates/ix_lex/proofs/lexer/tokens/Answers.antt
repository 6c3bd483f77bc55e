use Rattle.std.proofs.Common.{sym, subst, List}
use Rattle.ix_lex.specs.Turns.{AreTokensBefore}
use Rattle.ix_lex.proofs.Turning.{before_next, none_at_all}
use Rattle.ix_lex.proofs.lexer.tokens.Goals as goal

pub returns-in_default-clause-bad : goal.returns-in_default-clause-bad
returns-in_default-clause-bad c = λ _. none_at_all c.args.chars.now c.loop-at.tokens.items c.loop-at.at c.loop-at-test.true c.in_default.ensures c.loop-at.invariant

pub loop-at-preserved : goal.loop-at-preserved
loop-at-preserved c =
    let t = c.in-Some.token in
    let k = before_next c.args.chars.now c.loop-at.tokens.items c.loop-at.at c.spacing_end-at-in-loop-at.result t c.loop-at.invariant c.in-Some.ensures c.spacing_end-at-in-loop-at.ensures.after c.spacing_end-at-in-loop-at.ensures.order c.spacing_end-at-in-loop-at.ensures.within in
    subst (λ (z : List _). AreTokensBefore c.args.chars.now z c.spacing_end-at-in-loop-at.result) (sym c.in_ok-push.ensures.items) k
