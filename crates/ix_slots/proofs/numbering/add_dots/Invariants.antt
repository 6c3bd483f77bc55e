use Rattle.std.proofs.Common.{◌≡◌, ◌++◌, ◌+◌, ◌-◌}
use Rattle.ix_model.specs.Expansion.Numbering.{dots_from}
use Rattle.ix_slots.proofs.Dots.{dots}
use Rattle.ix_slots.proofs.numbering.add_dots.Given as goal

-- the slots that were added and those that are left are all
abbrev pub invariant-loop-dot : goal.invariant-loop-dot
invariant-loop-dot l = l.slots.items ++ dots l.head l.alt l.dot (l.symbols + 1 - l.dot) ≡ l.initial.slots.items ++ dots_from l.head l.alt 0 l.symbols
