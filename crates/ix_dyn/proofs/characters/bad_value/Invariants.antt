use Rattle.std.proofs.Common.{◌≡◌, drop}
use Rattle.std.specs.List.{find, flat_map}
use Rattle.ix_dyn.specs.Items.{is_bad_character, value_of}
use Rattle.ix_dyn.proofs.characters.bad_value.Given as goal

abbrev pub invariant-loop-attr : goal.invariant-loop-attr
invariant-loop-attr l = find is_bad_character (flat_map (value_of l.chars) (drop l.attr-index l.attrs)) ≡ find is_bad_character (flat_map (value_of l.chars) l.attrs)
