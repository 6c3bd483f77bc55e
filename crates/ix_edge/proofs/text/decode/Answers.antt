use Rattle.std.proofs.Common.{ap, subst, sym, ◌∙◌, length, arith}
use Rattle.std.specs.Char.{IsScalar}
use Rattle.std.specs.List.{AllByRecursion}
use Rattle.ix_model.specs.Answers.Decoding.{decoded}
use Rattle.ix_edge.proofs.Decoded.{length-decoded, scalars_decoded}
use Rattle.ix_edge.proofs.text.decode.Goals as goal

pub returns-in_ok-without_mark-in-Ok-clause-few : goal.returns-in_ok-without_mark-in-Ok-clause-few
returns-in_ok-without_mark-in-Ok-clause-few c =
    omega (arith, ap length (c.in_ok-without_mark-in-Ok.ensures ∙ ap decoded c.in-Ok.ensures.cases.0), length-decoded c.args.bytes.now c.in-Ok.ensures.cases.1)

pub returns-in_ok-without_mark-in-Ok-clause-scalars : goal.returns-in_ok-without_mark-in-Ok-clause-scalars
returns-in_ok-without_mark-in-Ok-clause-scalars c =
    subst (AllByRecursion IsScalar) (sym (c.in_ok-without_mark-in-Ok.ensures ∙ ap decoded c.in-Ok.ensures.cases.0)) (scalars_decoded c.args.bytes.now c.in-Ok.ensures.cases.1)
