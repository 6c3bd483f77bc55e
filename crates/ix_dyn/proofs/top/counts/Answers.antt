use Rattle.std.proofs.Common.{◌≡◌, ap, ◌∙◌, arith, get_or}
use Rattle.ix_marks.specs.declared.item.Item.{Item}
use Rattle.ix_marks.specs.declared.item.Item.TheVariants.{Begin}
use Rattle.ix_marks.specs.Counted.{run_length}
use Rattle.ix_dyn.specs.Top.{at_depth}
use Rattle.ix_dyn.proofs.Sums.{one_small, top_small}
use Rattle.ix_dyn.proofs.top.counts.Goals as goal

pub overflow_add-chars : goal.overflow_add-chars
overflow_add-chars c =
    let l = c.loop-item in
    let items = c.args.items.now in
    let x : Item = get_or items l.item-index (Begin 0 0 0) in
    let e : c.at_depth-chars.result ≡ at_depth l.depth (run_length x) = c.at_depth-chars.ensures ∙ ap (at_depth l.depth) c.run_length.ensures in
    omega (arith, e, l.invariant.chars, one_small run_length l.depth items l.item-index (Begin 0 0 0) c.loop-item-test.true, top_small run_length 0 items, c.requires)
