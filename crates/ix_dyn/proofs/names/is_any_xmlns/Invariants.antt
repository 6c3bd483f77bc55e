use Rattle.std.proofs.Common.{◌≡◌, drop}
use Rattle.std.specs.List.{list_any}
use Rattle.ix_dyn.specs.Items.{is_xmlns_attribute}
use Rattle.ix_dyn.proofs.names.is_any_xmlns.Given as goal

abbrev pub invariant-loop-attr : goal.invariant-loop-attr
invariant-loop-attr l = list_any (is_xmlns_attribute l.plan.rules.names) (drop l.attr-index l.attrs) ≡ list_any (is_xmlns_attribute l.plan.rules.names) l.attrs
