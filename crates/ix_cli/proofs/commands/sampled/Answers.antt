use Rattle.std.proofs.Common.{◌≡◌, subst}
use Rattle.ix_engine.specs.Compiled.{IsRefusalOf}
use Rattle.ix_cli.specs.declared.answer.Answer.TheVariants as answer
use Rattle.ix_cli.specs.Means.{of_refusal}
use Rattle.ix_cli.proofs.Replies.{sample_compiled, handed_on}
use Rattle.ix_cli.proofs.commands.sampled.Goals as goal

pub returns-in_err-grammar-clause-err : goal.returns-in_err-grammar-clause-err
returns-in_err-grammar-clause-err c =
    let r = c.in_err-grammar.field-0.0 in
    handed_on c.from_residual.result (λ a. a ≡ answer.Memory) (of_refusal r) c.from_residual.ensures.1 (sample_compiled r (subst (λ b. IsRefusalOf b r) c.grammar.ensures c.in_err-grammar.ensures.err))
