-- The worked examples of tasks, and of what they stand for.
use Rattle.std.proofs.Common.{◌≡◌, refl, ap, sym, subst, ◌∙◌, ◌<◌, ℕ, Bool, true, false, List, [], ◌∷◌, ◌++◌, Option, Some, None, arith}
use mathlib.Core.Logic.{inl, inr}
use Rattle.ix_model.specs.declared.grammar.Mark.{Mark}
use Rattle.ix_model.specs.declared.grammar.Mark.TheVariants.{Element, Hidden}
use Rattle.ix_model.specs.declared.rules.Sym.TheVariants as sy
use Rattle.ix_model.specs.declared.step.Step.{Step}
use Rattle.ix_model.specs.declared.step.Step.TheVariants as step
use Rattle.ix_model.specs.Expansion.Parts.{Parts}
use Rattle.ix_model.specs.Expansion.FlatTrees.{FlatTree, flat_text, flat_insertion, flat_node}
use Rattle.ix_model.specs.Expansion.FlatDerives.{FlatDerives, IsFlatDerivation}
use Rattle.ix_model.specs.Expansion.Walk.{walk, walk_all}
use Rattle.ix_model.specs.Closure.Useful.{sub_at, Useful}
use Rattle.ix_examples.specs.SmallPlans.{a_by, alone, call, in_second, pair}
use Rattle.ix_expansion_laws.proofs.Children.{one_child}
use Rattle.ix_first_laws.specs.Bounded.{TreesWithin, IsBestTree, IsBestTrees}
use Rattle.ix_first_laws.proofs.Fits.{Whatever, whatever}
use Rattle.ix_first_laws.proofs.FlatAsym.{one_tree, one_list}
use Rattle.ix_first_laws.proofs.HalfTrees.{HalfTree, is_full, is_empty, two, half_tree, half_height, best_two, first_second}
use Rattle.ix_height.specs.Spans.{IsOfUse, of_rule}
use Rattle.ix_choice.specs.Examples.{halves, shown_or_deleted, full, empty, full_steps, empty_steps, tree_then_leave}
use Rattle.ix_choice.specs.Tasks.{tree_size, trees_size, Gives, AllGive}
use Rattle.ix_choice.specs.TaskLaws.{LeaveGivesItsStep, LeaveGivesNoLess, LeaveIsOneTask, TreeGivesItsSteps, MarkIsThatOfTheCall, TreeIsLeft, TreeIsFiveTasks, TreeIsTooHigh, TreeIsOfNoUse, TreesGiveTheirSteps, DeletedIsNotShown, TreesAreInOrder, TreesAreElevenTasks, TreesAreTooHigh, TreesAreOfNoUse, NoTaskGivesNothing, NoTaskGivesNoStep, NoTaskIsNone, LastComesFirst, FirstComesLast, SizesAreAdded, NodeIsEntered, OtherTaskIsKept, OtherStepIsNotGiven, NothingIsNotEnough, SameTaskIsNoLess, LeaveIsDoneByItsStep, LeaveIsNotDoneByNothing, NoTreeIsDoneByNothing, TreesCanBeDone, TooHighCannotBeDone}
use Rattle.ix_choice.specs.declared.task.Task.{Task}
use Rattle.ix_choice.specs.declared.task.Task.TheVariants as task
use Rattle.ix_choice.proofs.Doing.{unmarked, leave_done}
use Rattle.ix_choice.proofs.SmallChoices.{rule_is_of_no_use, slot_is_of_use, slot_is_of_no_use, two_is_high}

-- ---- the end of a node

pub leave_gives_its_step : LeaveGivesItsStep
leave_gives_its_step = (refl, refl)

pub leave_gives_no_less : LeaveGivesNoLess
leave_gives_no_less h = cc h.0

pub leave_is_one_task : LeaveIsOneTask
leave_is_one_task h = omega (arith, h.1)

-- ---- the first tree of a symbol

-- over the character there is one tree of A alone
only_full : (d : FlatTree) (i j : ℕ) → HalfTree d i j → i < j → d ≡ full
only_full d i j is_full l = refl
only_full d i j (is_empty _) l = absurd (omega (arith, l))

best_full : (m : Option Mark) → IsBestTree halves 1 (sy.Rule 1 m) 0 1 full
best_full m = record {
  within = ((m, refl, _, (_, _, refl, refl, refl), refl, (0, _, refl, refl, (refl, refl, (0, true, _, refl, refl, (refl, omega arith, refl))))), omega arith);
  before = λ e h. inl (only_full e 0 1 (half_tree e 0 1 (unmarked halves e 1 0 1 m h.0)) (omega arith));
}

useful_full : Useful halves (sub_at 4 0 0 1)
useful_full = (in_second, first_second.0, inr (inr (inl (inr (inl (4, refl, refl))))))

full_is_of_use : IsOfUse halves (of_rule 1 0 1)
full_is_of_use = (4, 0, (0, _, refl, (_, _, refl, refl, refl)), useful_full)

pub tree_gives_its_steps : TreeGivesItsSteps
tree_gives_its_steps = (full, best_full None, full_is_of_use, refl, refl)

pub mark_is_that_of_the_call : MarkIsThatOfTheCall
mark_is_that_of_the_call = (full, best_full (Some Hidden), full_is_of_use, refl, refl)

-- it gives nothing else
tree_gives : (steps : List Step) (size : ℕ) → Gives halves (task.Tree (call 1) 0 1 1) steps size → (steps ≡ full_steps) × (size ≡ 5)
tree_gives steps size (d, y, _, e, f) =
    let same : d ≡ full = one_tree halves 1 (call 1) 0 1 d full y (best_full None) in
    (e ∙ ap (λ z. walk halves.rules z (call 1)) same, f ∙ ap tree_size same)

pub tree_is_left : TreeIsLeft
tree_is_left h = cc (tree_gives _ 5 h).0

pub tree_is_five_tasks : TreeIsFiveTasks
tree_is_five_tasks h = omega (arith, (tree_gives full_steps 4 h).1)

pub tree_is_too_high : TreeIsTooHigh
tree_is_too_high steps size (d, y, _, e, f) = omega (arith, y.within.1, half_height d 0 1 y.within.0)

pub tree_is_of_no_use : TreeIsOfNoUse
tree_is_of_no_use steps size (d, y, used, e, f) = rule_is_of_no_use used

-- ---- the first trees before a dot

pub trees_give_their_steps : TreesGiveTheirSteps
trees_give_their_steps = (pair empty full, best_two, slot_is_of_use, refl, refl)

-- over one character there is one tree of a literal alone
text_is : (plan : Parts) (d : FlatTree) (n i j : ℕ) (shown : Bool) → FlatDerives plan d (sy.Term n shown) i j → d ≡ flat_text i j
text_is plan (flat_text a b) n i j shown h = cc (h.0, h.1)
text_is plan flat_insertion n i j shown h = absurd (cc h.1)
text_is plan (flat_node r a ds) n i j shown h = absurd (cc h.1)

text_is_best : (plan : Parts) (n i j : ℕ) (shown : Bool) → TreesWithin plan 0 (sy.Term n shown ∷ []) 1 i j (alone (flat_text i j)) → IsBestTrees plan 0 (sy.Term n shown ∷ []) 1 i j (alone (flat_text i j))
text_is_best plan n i j shown h = record {
  within = h;
  before = λ es t. let v = one_child plan Whatever es (whatever es) (sy.Term n shown) i j t.1 t.0 in inl (v.1 ∙ ap alone (text_is plan v.0 n i j shown v.3));
}

deleted_tree : IsFlatDerivation shown_or_deleted (a_by 1)
deleted_tree = (None, refl, _, (_, _, refl, refl, refl), refl, (0, _, refl, refl, (refl, refl, (0, false, _, refl, refl, (refl, omega arith, refl)))))

pub deleted_is_not_shown : DeletedIsNotShown
deleted_is_not_shown = (
  alone (flat_text 0 1),
  text_is_best shown_or_deleted 0 0 1 false ((0, _, refl, refl, (refl, refl, (0, false, _, refl, refl, (refl, omega arith, refl)))), refl, omega arith),
  (omega arith, inr (0, (a_by 1, deleted_tree, inr (inl (3, refl, refl))))),
  refl,
  refl,
)

trees_give : (steps : List Step) (size : ℕ) → Gives halves (task.Before 2 0 1 1) steps size → (steps ≡ empty_steps ++ full_steps) × (size ≡ 11)
trees_give steps size (ds, y, _, e, f) =
    let same : ds ≡ pair empty full = one_list halves 1 two 2 0 1 ds (pair empty full) y best_two in
    (e ∙ ap (λ z. walk_all halves.rules z 0 0) same, f ∙ ap trees_size same)

pub trees_are_in_order : TreesAreInOrder
trees_are_in_order h = cc (trees_give _ 11 h).0

pub trees_are_eleven_tasks : TreesAreElevenTasks
trees_are_eleven_tasks h = omega (arith, (trees_give _ 10 h).1)

pub trees_are_too_high : TreesAreTooHigh
trees_are_too_high steps size (ds, y, _, e, f) = omega (arith, y.within.2, two_is_high ds 0 1 y.within.1 y.within.0)

pub trees_are_of_no_use : TreesAreOfNoUse
trees_are_of_no_use steps size (ds, y, used, e, f) = slot_is_of_no_use used

-- ---- several tasks

pub no_task_gives_nothing : NoTaskGivesNothing
no_task_gives_nothing = (refl, refl)

pub no_task_gives_no_step : NoTaskGivesNoStep
no_task_gives_no_step h = cc h.0

pub no_task_is_none : NoTaskIsNone
no_task_is_none h = omega (arith, h.1)

pub last_comes_first : LastComesFirst
last_comes_first = (step.Leave ∷ [], 1, full_steps, 5, leave_gives_its_step, (full_steps, 5, [], 0, tree_gives_its_steps, (refl, refl), refl, refl), refl, refl)

-- they give nothing else
both_give : (rest : List Step) (size : ℕ) → AllGive halves tree_then_leave rest size → (rest ≡ full_steps ++ step.Leave ∷ []) × (size ≡ 6)
both_give rest size (mine, n, theirs, m, g, (other, o, none, z, h, a, e', f'), e, f) =
    let t = tree_gives other o h in
    (e ∙ ap (λ y. y ++ mine) (e' ∙ ap (λ y. y ++ other) a.0 ∙ t.0) ∙ ap (λ y. full_steps ++ y) g.0, omega (arith, f, f', g.1, a.1, t.1))

pub first_comes_last : FirstComesLast
first_comes_last h = cc (both_give _ 6 h).0

pub sizes_are_added : SizesAreAdded
sizes_are_added h = omega (arith, (both_give _ 5 h).1)

-- ---- what is done

text_of_full : Gives halves (task.Before 4 0 1 0) (step.Text 0 1 true ∷ []) 3
text_of_full = (
  alone (flat_text 0 1),
  text_is_best halves 0 0 1 true ((0, _, refl, refl, (refl, refl, (0, true, _, refl, refl, (refl, omega arith, refl)))), refl, omega arith),
  (omega arith, inr (0, useful_full)),
  refl,
  refl,
)

pub node_is_entered : NodeIsEntered
node_is_entered = record {
  given = step.Enter 1 Element ∷ [];
  more = task.Leave ∷ task.Before 4 0 1 0 ∷ [];
  rest = step.Text 0 1 true ∷ step.Leave ∷ [];
  count = 4;
  tasks_are = refl;
  out_is = refl;
  gives = (step.Leave ∷ [], 1, step.Text 0 1 true ∷ [], 3, leave_gives_its_step, (step.Text 0 1 true ∷ [], 3, [], 0, text_of_full, (refl, refl), refl, refl), refl, refl);
  steps_are = refl;
  fewer = omega arith;
}

pub other_task_is_kept : OtherTaskIsKept
other_task_is_kept d = cc d.tasks_are

-- without a step and without a task nothing is given
nothing_given : (given rest : List Step) (more : List Task) (count : ℕ) → more ≡ [] → given ≡ [] → AllGive halves more rest count → given ++ rest ≡ []
nothing_given given rest more count e f h = let a : AllGive halves [] rest count = subst (λ z. AllGive halves z rest count) e h in ap (λ z. z ++ rest) f ∙ a.0

pub other_step_is_not_given : OtherStepIsNotGiven
other_step_is_not_given d =
    let e : d.given ≡ [] = cc d.out_is in
    absurd (cc (d.steps_are ∙ nothing_given d.given d.rest d.more d.count (sym d.tasks_are) e d.gives))

pub nothing_is_not_enough : NothingIsNotEnough
nothing_is_not_enough d = absurd (cc (d.steps_are ∙ nothing_given d.given d.rest d.more d.count (sym d.tasks_are) (sym d.out_is) d.gives))

pub same_task_is_no_less : SameTaskIsNoLess
same_task_is_no_less d =
    let (mine, n, theirs, m, g, a, e, f) : AllGive halves (task.Leave ∷ []) d.rest d.count = subst (λ z. AllGive halves z d.rest d.count) (sym d.tasks_are) d.gives in
    omega (arith, f, g.1, a.1, d.fewer)

-- ---- tasks that stand for something, or for nothing

pub leave_is_done_by_its_step : LeaveIsDoneByItsStep
leave_is_done_by_its_step = leave_done halves [] []

pub leave_is_not_done_by_nothing : LeaveIsNotDoneByNothing
leave_is_not_done_by_nothing does = nothing_is_not_enough (does (step.Leave ∷ []) 1 leave_gives_its_step)

pub no_tree_is_done_by_nothing : NoTreeIsDoneByNothing
no_tree_is_done_by_nothing steps size h = absurd (tree_is_too_high steps size h)

pub trees_can_be_done : TreesCanBeDone
trees_can_be_done = (empty_steps ++ full_steps, 11, trees_give_their_steps)

pub too_high_cannot_be_done : TooHighCannotBeDone
too_high_cannot_be_done (steps, size, h) = trees_are_too_high steps size h
