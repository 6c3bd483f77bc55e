use Rattle.std.proofs.Common.{◌≡◌, map, take}
use Rattle.ix_subtrees.specs.declared.entry.Entry.{Entry}
use Rattle.ix_subtrees.proofs.choices.choices_of.Given as goal

abbrev pub invariant-loop-entry : goal.invariant-loop-entry
invariant-loop-entry l = l.choices.items ≡ map (λ (e : Entry). e.choice) (take l.entry-index l.entries)
