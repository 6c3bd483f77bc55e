use Rattle.std.proofs.Common.{◌≡◌, drop}
use Rattle.std.specs.List.{find, flat_map}
use Rattle.ix_dyn.specs.Items.{is_bad_number, item_numbers}
use Rattle.ix_dyn.proofs.names.bad_name.Given as goal

abbrev pub invariant-loop-item : goal.invariant-loop-item
invariant-loop-item l =
    find (is_bad_number l.plan.rules.names) (flat_map (item_numbers l.marked.attrs) (drop l.item-index l.marked.items))
    ≡ find (is_bad_number l.plan.rules.names) (flat_map (item_numbers l.marked.attrs) l.marked.items)
