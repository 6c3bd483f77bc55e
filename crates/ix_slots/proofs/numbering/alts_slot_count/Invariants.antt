use Rattle.std.proofs.Common.{◌≡◌, ◌+◌, length, drop}
use Rattle.ix_model.specs.Expansion.Numbering.{alts_from}
use Rattle.ix_slots.proofs.numbering.alts_slot_count.Given as goal

-- the slots that were counted and those of the alternatives that are left are all
abbrev pub invariant-loop-line : goal.invariant-loop-line
invariant-loop-line l = l.count + length (alts_from 0 l.line-index (drop l.line-index l.lines)) ≡ length (alts_from 0 0 l.lines)
