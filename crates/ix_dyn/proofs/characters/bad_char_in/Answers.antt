use Rattle.std.proofs.Common.{sym, ◌∙◌}
use Rattle.ix_marks.specs.declared.item.Item.TheVariants.{Begin}
use Rattle.ix_dyn.specs.Items.{is_bad_character, item_characters}
use Rattle.ix_dyn.proofs.Finding.{found_next, none_next}
use Rattle.ix_dyn.proofs.characters.bad_char_in.Goals as goal

pub returns-then-is_some : goal.returns-then-is_some
returns-then-is_some c =
    found_next (is_bad_character) (item_characters c.args.marked.now.attrs c.args.marked.now.chars) c.args.marked.now.items c.items-item-items.result.now c.items-item-items.ensures c.loop-item.item-index (Begin 0 0 0) c.loop-item-test.true c.bad_char_of-found.result c.bad_char_of-found.ensures (sym c.is_some.ensures ∙ c.if-is_some.true) c.loop-item.invariant

pub loop-item-preserved : goal.loop-item-preserved
loop-item-preserved c =
    none_next (is_bad_character) (item_characters c.args.marked.now.attrs c.args.marked.now.chars) c.args.marked.now.items c.items-item-items.result.now c.items-item-items.ensures c.loop-item.item-index (Begin 0 0 0) c.loop-item-test.true c.bad_char_of-found.result c.bad_char_of-found.ensures (sym c.is_some.ensures ∙ c.if-is_some.false) c.loop-item.invariant
