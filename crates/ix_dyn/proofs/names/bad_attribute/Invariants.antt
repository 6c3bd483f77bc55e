use Rattle.std.proofs.Common.{◌≡◌, drop}
use Rattle.std.specs.List.{find}
use Rattle.ix_marks.specs.Repeats.{numbers}
use Rattle.ix_dyn.specs.Items.{is_bad_number}
use Rattle.ix_dyn.proofs.names.bad_attribute.Given as goal

abbrev pub invariant-loop-attr : goal.invariant-loop-attr
invariant-loop-attr l = find (is_bad_number l.plan.rules.names) (numbers (drop l.attr-index l.attrs)) ≡ find (is_bad_number l.plan.rules.names) (numbers l.attrs)
