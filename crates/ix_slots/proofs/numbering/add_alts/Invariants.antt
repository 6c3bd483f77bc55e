use Rattle.std.proofs.Common.{◌≡◌, ◌++◌, drop}
use Rattle.ix_model.specs.Expansion.Numbering.{alts_from}
use Rattle.ix_slots.proofs.numbering.add_alts.Given as goal

-- the slots that were added and those of the alternatives that are left are all
abbrev pub invariant-loop-alt : goal.invariant-loop-alt
invariant-loop-alt l = l.slots.items ++ alts_from l.head l.alt (drop l.alt l.lines) ≡ l.initial.slots.items ++ alts_from l.head 0 l.lines
