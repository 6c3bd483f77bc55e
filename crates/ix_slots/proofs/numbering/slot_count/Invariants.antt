use Rattle.std.proofs.Common.{◌≡◌, ◌+◌, length, drop}
use Rattle.ix_model.specs.Expansion.Numbering.{rules_from}
use Rattle.ix_slots.proofs.numbering.slot_count.Given as goal

-- the slots that were counted and those of the rules that are left are all
abbrev pub invariant-loop-flat : goal.invariant-loop-flat
invariant-loop-flat l = l.count + length (rules_from l.flat-index (drop l.flat-index l.flats)) ≡ length (rules_from 0 l.flats)
