use Rattle.std.proofs.Common.{length, refl, ap, ◌∙◌, arith}
use Rattle.std.proofs.lemmas.List.{length-map}
use Rattle.ix_model.specs.declared.grammar.Rule.{Rule}
use Rattle.ix_errors.proofs.Searching.{one_more_unrepeated, none_repeated, name_here}
use Rattle.ix_errors.proofs.repeats.first_repeated.Goals as goal

pub loop-number-preserved : goal.loop-number-preserved
loop-number-preserved c =
    let here = name_here c.args.rules.now c.args.names.now c.loop-number.number c.index-rules-number.result c.requires c.loop-number-test.true in
    one_more_unrepeated c.args.names.now c.loop-number.number _ c.loop-number.invariant here (c.in_default.ensures.none refl)

pub returns : goal.returns
returns c =
    let counted = ap length c.requires ∙ length-map c.args.rules.now (λ (rule : Rule). rule.name) in
    none_repeated c.args.names.now c.loop-number.number (omega (arith, counted, c.loop-number-test.false)) c.loop-number.invariant
