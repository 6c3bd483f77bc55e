use Rattle.std.proofs.Common.{◌≡◌, ◌++◌, drop}
use Rattle.ix_subtrees.specs.Subs.{kept}
use Rattle.ix_subtrees.proofs.keeping.kept_of.Given as goal

abbrev pub invariant-loop-at : goal.invariant-loop-at
invariant-loop-at l = l.subs.items ++ kept (drop l.at l.nodes) (drop l.at l.marks) ≡ kept l.fn.nodes l.fn.marks
