use Rattle.std.proofs.Common.{◌≡◌, [], sym, subst, arith}
use Rattle.std.proofs.lemmas.Grind.{common_steps}
use Rattle.std.proofs.lemmas.Result.{IfOk-weaker}
use Rattle.ix_model.specs.Spelling.Spells.{StringAt}
use Rattle.ix_lex.specs.Spans.{content}
use Rattle.ix_lex.proofs.Spelling.{string_there}
use Rattle.ix_lex.proofs.strings.unquote.Goals as goal

pub returns-clause-content : goal.returns-clause-content
returns-clause-content c = grind (arith, common_steps)

pub returns-clause-spelled : goal.returns-clause-spelled
returns-clause-spelled c =
    IfOk-weaker c.unescaped.result (λ t. t ≡ content c.args.chars.now) (StringAt c.args.chars.now [])
    (λ t e. subst (StringAt c.args.chars.now []) (sym e) (string_there c.args.chars.now c.requires.string)) (returns-clause-content c)
