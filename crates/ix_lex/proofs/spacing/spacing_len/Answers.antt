use Rattle.std.proofs.Common.{sym, ◌∙◌, [], arith}
use Rattle.ix_spelling_laws.proofs.SpacingFacts.{saved_free}
use Rattle.std.proofs.lemmas.List.{get_or_default}
use Rattle.ix_lex.proofs.Scanning.{spaces_next}
use Rattle.ix_lex.proofs.spacing.spacing_len.Goals as goal

pub loop-at-init : goal.loop-at-init
loop-at-init c = record { run = saved_free c.args.text.now c.args.text.now []; small = omega arith; within = omega arith }

pub loop-at-preserved : goal.loop-at-preserved
loop-at-preserved c =
    spaces_next c.args.text.now c.loop-at.depth c.loop-at.saved c.loop-at.at c.index-text-at.result c.deeper-depth.result c.opening-saved.result c.loop-at-test.true (c.index-text-at.is ∙ get_or_default c.args.text.now c.loop-at.at c.index-text-at.result 0 c.loop-at-test.true) (sym c.leaves.ensures ∙ c.if-leaves.false) c.deeper-depth.ensures c.opening-saved.ensures c.loop-at.invariant
