use Rattle.std.proofs.Common.{◌+◌, codes, arith}
use Rattle.ix_worked_examples.proofs.SmallReadings.{front_entered, only_at_front, b_entered, lines_entered, b_of_parts, first_item_entered, item_without_option, v_of_calls}
use Rattle.ix_worked_examples.proofs.readings.entered_terms.Goals as goal

pub returns-clause-first : goal.returns-clause-first
returns-clause-first c = front_entered (codes "a") (codes "b")

pub returns-clause-nowhere_else : goal.returns-clause-nowhere_else
returns-clause-nowhere_else c = λ i h. omega (arith, (only_at_front (codes "a") (codes "ab") _ (i + 1) h).1)

pub returns-clause-next : goal.returns-clause-next
returns-clause-next c = b_entered

pub returns-clause-not_before : goal.returns-clause-not_before
returns-clause-not_before c = λ h. cc (lines_entered _ 1 h)

pub returns-clause-in_group : goal.returns-clause-in_group
returns-clause-in_group c = b_of_parts

pub returns-clause-behind_group : goal.returns-clause-behind_group
returns-clause-behind_group c = first_item_entered

pub returns-clause-behind_absent : goal.returns-clause-behind_absent
returns-clause-behind_absent c = item_without_option

pub returns-clause-by_calls : goal.returns-clause-by_calls
returns-clause-by_calls c = v_of_calls
