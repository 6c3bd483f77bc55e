use Rattle.std.proofs.Common.{◌≡◌, ℕ, ◌<◌, ◌≤◌, map, take, true, false, slice_index_or, vec_len, vec_capacity, Some}
use Rattle.std.specs.Slots.{slots_items, slots_filled, slots_len}
use Rattle.ix_rows.proofs.slots.emptied.Given as goal

abbrev pub invariant-loop-place : goal.invariant-loop-place
invariant-loop-place g l =
    (slots_items l.closed.slots ≡ slots_items l.initial.closed.slots)
    × (slots_len l.closed.slots ≡ slots_len l.initial.closed.slots)
    × (l.closed.words ≡ l.initial.closed.words)
    × ((k : ℕ) → l.place ≤ k → k < slots_len l.initial.closed.slots → slice_index_or (slots_filled l.closed.slots) k false ≡ true)
    × ((k : ℕ) → k < l.place → slice_index_or (slots_filled l.closed.slots) k false ≡ false)
    × (map Some l.values.items ≡ take l.place (slots_items l.initial.closed.slots))
    × (vec_len l.values ≡ l.place)
    × (slots_len l.initial.closed.slots ≤ vec_capacity l.values)
