-- Worked examples of tasks, and of what they stand for.
use Rattle.std.specs.Prelude.{◌≡◌, ℕ, true, false, List, [], ◌∷◌, ◌++◌, Some}
use Rattle.ix_model.specs.declared.grammar.Mark.TheVariants.{Element, Hidden}
use Rattle.ix_model.specs.declared.rules.Sym.TheVariants as sym
use Rattle.ix_model.specs.declared.step.Step.{Step}
use Rattle.ix_model.specs.declared.step.Step.TheVariants as step
use Rattle.ix_model.specs.Expansion.FlatTrees.{flat_text, flat_insertion, no_flat}
use Rattle.ix_examples.specs.SmallPlans.{alone, call, pair}
use Rattle.ix_choice.specs.Examples.{halves, shown_or_deleted, no_derivation, full, empty, marked_steps, full_steps, empty_steps, tree_then_leave}
use Rattle.ix_choice.specs.Tasks.{tree_size, trees_size, Gives, AllGive, Done, Does, CanDo}
use Rattle.ix_choice.specs.declared.task.Task.TheVariants as task

-- ---- how many tasks a tree makes

-- its own; for a node also its end and those of its trees
abbrev pub TextIsOneTask : Type 0
TextIsOneTask = tree_size (flat_text 0 1) ≡ 1

abbrev pub InsertionIsOneTask : Type 0
InsertionIsOneTask = tree_size flat_insertion ≡ 1

abbrev pub EmptyIsThreeTasks : Type 0
EmptyIsThreeTasks = tree_size empty ≡ 3

-- a list of trees, and those before its last
abbrev pub NoTreeIsOneTask : Type 0
NoTreeIsOneTask = trees_size no_flat ≡ 1

abbrev pub OneTextIsThreeTasks : Type 0
OneTextIsThreeTasks = trees_size (alone (flat_text 0 1)) ≡ 3

abbrev pub HalvesAreElevenTasks : Type 0
HalvesAreElevenTasks = trees_size (pair empty full) ≡ 11

-- ---- the end of a node

abbrev pub LeaveGivesItsStep : Type 0
LeaveGivesItsStep = Gives halves task.Leave (step.Leave ∷ []) 1

abbrev pub LeaveGivesNoLess : Type 0
LeaveGivesNoLess = Gives halves task.Leave [] 1 → ⊥

abbrev pub LeaveIsOneTask : Type 0
LeaveIsOneTask = Gives halves task.Leave (step.Leave ∷ []) 0 → ⊥

-- ---- the first tree of a symbol

abbrev pub TreeGivesItsSteps : Type 0
TreeGivesItsSteps = Gives halves (task.Tree (call 1) 0 1 1) full_steps 5

-- a call has its own mark
abbrev pub MarkIsThatOfTheCall : Type 0
MarkIsThatOfTheCall = Gives halves (task.Tree (sym.Rule 1 (Some Hidden)) 0 1 1) (marked_steps Hidden) 5

-- not without its end, nor as fewer tasks, nor within a lower bound, nor over a span that is of no use
abbrev pub TreeIsLeft : Type 0
TreeIsLeft = Gives halves (task.Tree (call 1) 0 1 1) (step.Enter 1 Element ∷ step.Text 0 1 true ∷ []) 5 → ⊥

abbrev pub TreeIsFiveTasks : Type 0
TreeIsFiveTasks = Gives halves (task.Tree (call 1) 0 1 1) full_steps 4 → ⊥

abbrev pub TreeIsTooHigh : Type 0
TreeIsTooHigh = (steps : List Step) (size : ℕ) → Gives halves (task.Tree (call 1) 0 1 0) steps size → ⊥

abbrev pub TreeIsOfNoUse : Type 0
TreeIsOfNoUse = (steps : List Step) (size : ℕ) → Gives no_derivation (task.Tree (call 0) 0 1 1) steps size → ⊥

-- ---- the first trees before a dot

abbrev pub TreesGiveTheirSteps : Type 0
TreesGiveTheirSteps = Gives halves (task.Before 2 0 1 1) (empty_steps ++ full_steps) 11

-- the symbols are those of the slot's alternative
abbrev pub DeletedIsNotShown : Type 0
DeletedIsNotShown = Gives shown_or_deleted (task.Before 3 0 1 0) (step.Text 0 1 false ∷ []) 3

-- not in another order, nor as fewer tasks, nor within a lower bound, nor over a span that is of no use
abbrev pub TreesAreInOrder : Type 0
TreesAreInOrder = Gives halves (task.Before 2 0 1 1) (full_steps ++ empty_steps) 11 → ⊥

abbrev pub TreesAreElevenTasks : Type 0
TreesAreElevenTasks = Gives halves (task.Before 2 0 1 1) (empty_steps ++ full_steps) 10 → ⊥

abbrev pub TreesAreTooHigh : Type 0
TreesAreTooHigh = (steps : List Step) (size : ℕ) → Gives halves (task.Before 2 0 1 0) steps size → ⊥

abbrev pub TreesAreOfNoUse : Type 0
TreesAreOfNoUse = (steps : List Step) (size : ℕ) → Gives no_derivation (task.Before 1 0 1 0) steps size → ⊥

-- ---- several tasks

abbrev pub NoTaskGivesNothing : Type 0
NoTaskGivesNothing = AllGive halves [] [] 0

abbrev pub NoTaskGivesNoStep : Type 0
NoTaskGivesNoStep = AllGive halves [] (step.Leave ∷ []) 0 → ⊥

abbrev pub NoTaskIsNone : Type 0
NoTaskIsNone = AllGive halves [] [] 1 → ⊥

-- the last comes first
abbrev pub LastComesFirst : Type 0
LastComesFirst = AllGive halves tree_then_leave (full_steps ++ step.Leave ∷ []) 6

abbrev pub FirstComesLast : Type 0
FirstComesLast = AllGive halves tree_then_leave (step.Leave ∷ full_steps) 6 → ⊥

abbrev pub SizesAreAdded : Type 0
SizesAreAdded = AllGive halves tree_then_leave (full_steps ++ step.Leave ∷ []) 5 → ⊥

-- ---- what is done

-- behind another task and another step: a node is entered; then come what is in it, and its end
abbrev pub NodeIsEntered : Type 0
NodeIsEntered =
    Done halves (task.Tree (call 1) 0 1 1) (task.Leave ∷ []) (task.Leave ∷ task.Leave ∷ task.Before 4 0 1 0 ∷ [])
    (step.Leave ∷ []) (step.Leave ∷ step.Enter 1 Element ∷ []) full_steps 5

-- the other tasks stay
abbrev pub OtherTaskIsKept : Type 0
OtherTaskIsKept = Done halves task.Leave (task.Leave ∷ []) [] [] (step.Leave ∷ []) (step.Leave ∷ []) 1 → ⊥

-- what is written already is not the task's
abbrev pub OtherStepIsNotGiven : Type 0
OtherStepIsNotGiven = Done halves task.Leave [] [] (step.Leave ∷ []) (step.Leave ∷ []) (step.Leave ∷ []) 1 → ⊥

-- a task is not done by nothing, nor by itself
abbrev pub NothingIsNotEnough : Type 0
NothingIsNotEnough = Done halves task.Leave [] [] [] [] (step.Leave ∷ []) 1 → ⊥

abbrev pub SameTaskIsNoLess : Type 0
SameTaskIsNoLess = Done halves task.Leave [] (task.Leave ∷ []) [] [] (step.Leave ∷ []) 1 → ⊥

-- ---- tasks that stand for something, or for nothing

abbrev pub LeaveIsDoneByItsStep : Type 0
LeaveIsDoneByItsStep = Does halves task.Leave [] [] [] (step.Leave ∷ [])

abbrev pub LeaveIsNotDoneByNothing : Type 0
LeaveIsNotDoneByNothing = Does halves task.Leave [] [] [] [] → ⊥

-- what stands for nothing is done by anything
abbrev pub NoTreeIsDoneByNothing : Type 0
NoTreeIsDoneByNothing = Does halves (task.Tree (call 1) 0 1 0) [] [] [] []

abbrev pub TreesCanBeDone : Type 0
TreesCanBeDone = CanDo halves (task.Before 2 0 1 1)

abbrev pub TooHighCannotBeDone : Type 0
TooHighCannotBeDone = CanDo halves (task.Before 2 0 1 0) → ⊥
