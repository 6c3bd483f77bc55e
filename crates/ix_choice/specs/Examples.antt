-- What the worked examples speak of.
use Rattle.std.specs.Prelude.{true, List, [], ◌∷◌, codes}
use Rattle.ix_model.specs.declared.grammar.Mark.{Mark}
use Rattle.ix_model.specs.declared.grammar.Mark.TheVariants.{Element}
use Rattle.ix_model.specs.declared.rules.Terminal.TheVariants as terminal
use Rattle.ix_model.specs.declared.step.Step.{Step}
use Rattle.ix_model.specs.declared.step.Step.TheVariants as step
use Rattle.ix_model.specs.Expansion.Parts.{Parts}
use Rattle.ix_model.specs.Expansion.FlatTrees.{FlatTree, flat_text, flat_node, no_flat}
use Rattle.ix_examples.specs.SmallHelpers.{left_out}
use Rattle.ix_examples.specs.SmallPlans.{alone, call, cycle, insertion, literal, named, only_a, plan_of, two_halves}
use Rattle.ix_choice.specs.declared.task.Task.{Task}
use Rattle.ix_choice.specs.declared.task.Task.TheVariants as task

-- ---- plans

-- S: A, A. A: "a"; . on `a`: slots 0 to 2 are of S, slots 3 and 4 of the first alternative of A, and slot 5 of the second
abbrev pub halves : Parts
halves = two_halves (codes "a")

-- S: S; "a". on `a`: slots 0 and 1 are of the first alternative, slots 2 and 3 of the second
abbrev pub by_cycle : Parts
by_cycle = cycle (codes "a")

-- S: "a"; -"a". on `a`: slots 2 and 3 are of the second alternative
abbrev pub shown_or_deleted : Parts
shown_or_deleted = plan_of (codes "S" ∷ []) (named ((literal 0 ∷ []) ∷ (left_out 0 ∷ []) ∷ []) ∷ []) (terminal.Lit (codes "a") ∷ []) [] (codes "a")

-- S: +"x". on the empty text
abbrev pub by_insertion : Parts
by_insertion = insertion []

-- S: "a". on `ab`, which has no derivation
abbrev pub no_derivation : Parts
no_derivation = only_a (codes "ab")

-- ---- trees of A, with the character and without

abbrev pub full : FlatTree
full = flat_node 1 0 (alone (flat_text 0 1))

abbrev pub empty : FlatTree
empty = flat_node 1 1 no_flat

-- ---- their steps

-- of the tree with the character, under this mark
abbrev pub marked_steps : Mark → List Step
marked_steps mark = step.Enter 1 mark ∷ step.Text 0 1 true ∷ step.Leave ∷ []

abbrev pub full_steps : List Step
full_steps = marked_steps Element

abbrev pub empty_steps : List Step
empty_steps = step.Enter 1 Element ∷ step.Leave ∷ []

-- ---- tasks: a node is to be left, and before that the tree with the character is to be written

abbrev pub tree_then_leave : List Task
tree_then_leave = task.Leave ∷ task.Tree (call 1) 0 1 1 ∷ []
