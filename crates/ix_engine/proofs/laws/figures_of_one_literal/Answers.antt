use Rattle.std.proofs.Common.{ap, refl, codes, arith}
use Rattle.std.specs.Str.{chars}
use lib.Utf8.{encode}
use Rattle.ix_model.specs.declared.counts.Counts.{Counts}
use Rattle.ix_examples.specs.SmallPlans.{only_a}
use Rattle.ix_examples.proofs.SmallPlans.{planned_a}
use Rattle.ix_examples.proofs.SmallTexts.{first}
use Rattle.ix_worked_examples.proofs.SmallRules.{plan_of_a}
use Rattle.ix_engine.specs.Examples.{a_counts, b_counts}
use Rattle.ix_figure_laws.proofs.CountsOnce.{counts_are_one}
use Rattle.ix_engine.proofs.SmallCounts.{counts_on_a, counts_on_b}
use Rattle.ix_engine.proofs.laws.figures_of_one_literal.Goals as goal

pub returns-clause-counts : goal.returns-clause-counts
returns-clause-counts c = counts_on_a

pub returns-clause-exchanged : goal.returns-clause-exchanged
returns-clause-exchanged c = λ h. omega (arith, ap (λ (z : Counts). z.subtrees) (counts_are_one (only_a (codes "a")) (record { descriptors = 1; subtrees = 2 }) a_counts h counts_on_a))

pub returns-clause-on_b : goal.returns-clause-on_b
returns-clause-on_b c = counts_on_b

pub returns-clause-not_on_a : goal.returns-clause-not_on_a
returns-clause-not_on_a c = λ h. omega (arith, ap (λ (z : Counts). z.subtrees) (counts_are_one (only_a (codes "a")) b_counts a_counts h counts_on_a))

pub returns-clause-counted : goal.returns-clause-counted
unfolding chars
returns-clause-counted c = record { plan_of = plan_of_a; planned = planned_a; text = refl; counts_of = counts_on_a }

pub returns-clause-other_text : goal.returns-clause-other_text
unfolding chars
returns-clause-other_text c = λ h. omega (arith, ap first h.text)

pub returns-clause-plan : goal.returns-clause-plan
unfolding chars encode
returns-clause-plan c = record { bytes_are = (omega arith, (codes "a", (refl, refl))); text = refl; plan_of = plan_of_a }

pub returns-clause-other_plan : goal.returns-clause-other_plan
unfolding chars
returns-clause-other_plan c = λ h. omega (arith, ap first h.text)
