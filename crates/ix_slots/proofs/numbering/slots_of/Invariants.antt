use Rattle.std.proofs.Common.{◌≡◌, ◌++◌, drop}
use Rattle.ix_model.specs.Expansion.Numbering.{rules_from}
use Rattle.ix_slots.proofs.numbering.slots_of.Given as goal

-- the slots that were added and those of the rules that are left are all
abbrev pub invariant-loop-head : goal.invariant-loop-head
invariant-loop-head l = l.slots.items ++ rules_from l.head (drop l.head l.flats) ≡ rules_from 0 l.flats
