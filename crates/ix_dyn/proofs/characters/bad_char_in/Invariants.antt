use Rattle.std.proofs.Common.{◌≡◌, drop}
use Rattle.std.specs.List.{find, flat_map}
use Rattle.ix_dyn.specs.Items.{is_bad_character, item_characters}
use Rattle.ix_dyn.proofs.characters.bad_char_in.Given as goal

abbrev pub invariant-loop-item : goal.invariant-loop-item
invariant-loop-item l =
    find is_bad_character (flat_map (item_characters l.marked.attrs l.marked.chars) (drop l.item-index l.marked.items))
    ≡ find is_bad_character (flat_map (item_characters l.marked.attrs l.marked.chars) l.marked.items)
