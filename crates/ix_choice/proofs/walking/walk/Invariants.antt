use Rattle.std.proofs.Common.{None}
use Rattle.ix_model.specs.declared.rules.Sym.TheVariants as sym
use Rattle.ix_model.specs.Expansion.Walk.{walk}
use Rattle.ix_first_laws.proofs.FirstTrees.{tree_of}
use Rattle.ix_choice.proofs.Remaining.{Walking, tasks_size}
use Rattle.ix_choice.proofs.walking.walk.Given as goal

-- what is written and what the tasks give are the steps of the first tree
abbrev pub invariant-loop-task : goal.invariant-loop-task
invariant-loop-task l = Walking l.plan (walk l.plan.rules (tree_of l.plan l.bound (sym.Rule 0 None) 0 l.end) (sym.Rule 0 None)) l.tasks.items l.steps.items

abbrev pub decreases-loop-task : goal.decreases-loop-task
decreases-loop-task l = tasks_size l.plan l.tasks.items
