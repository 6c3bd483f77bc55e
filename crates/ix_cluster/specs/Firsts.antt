-- The first slots of a rule's alternatives. It is this project's own.
use Rattle.std.specs.Prelude.{ℕ, Bool, List, length, map, is_none}
use Rattle.std.specs.List.{prefix_len, range_with_len}
use Rattle.ix_model.specs.Expansion.Parts.{Parts}
use Rattle.ix_model.specs.Expansion.Numbered.{lines_at}
use Rattle.ix_model.specs.Expansion.Numbering.{is_before}
use Rattle.ix_model.specs.Expansion.Slots.{sym_after}

-- the number of the first slot of alternative a of rule r: so many slots are of alternatives before it
abbrev pub first_slot : Parts → ℕ → ℕ → ℕ
first_slot plan r a = prefix_len (is_before r a) plan.slots

-- the first slots of the rule's alternatives, in their order
abbrev pub firsts_of : Parts → ℕ → List ℕ
firsts_of plan r = map (first_slot plan r) (range_with_len 0 (length (lines_at plan.rules r)))

-- whether the slot has its dot at the end of its alternative
abbrev pub is_at_end : Parts → ℕ → Bool
is_at_end plan s = is_none (sym_after plan s)
