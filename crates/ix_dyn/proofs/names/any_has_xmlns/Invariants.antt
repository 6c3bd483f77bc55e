use Rattle.std.proofs.Common.{◌≡◌, drop}
use Rattle.std.specs.List.{list_any}
use Rattle.ix_dyn.specs.Items.{has_xmlns}
use Rattle.ix_dyn.proofs.names.any_has_xmlns.Given as goal

abbrev pub invariant-loop-item : goal.invariant-loop-item
invariant-loop-item l = list_any (has_xmlns l.plan.rules.names l.marked.attrs) (drop l.item-index l.marked.items) ≡ list_any (has_xmlns l.plan.rules.names l.marked.attrs) l.marked.items
