use Rattle.std.proofs.Common.{rules, sym, ap, subst, ◌∙◌, ◌++◌, ◌∷◌, [], ℕ, List, length, None}
use Rattle.ix_model.specs.declared.rules.Sym.TheVariants as sy
use Rattle.ix_model.specs.declared.step.Step.{Step}
use Rattle.ix_model.specs.Documents.Bare.{bare_root}
use Rattle.ix_model.specs.Documents.WalkGives.{AreWalks}
use Rattle.ix_model.specs.Expansion.Lift.{lift}
use Rattle.ix_model.specs.Expansion.Parts.{Parts}
use Rattle.ix_model.specs.Expansion.Walk.{walk}
use Rattle.ix_expansion_laws.proofs.Walking.{flat_walks}
use Rattle.ix_first_laws.proofs.FirstLifts.{first_lifts}
use Rattle.ix_first_laws.proofs.FirstTrees.{tree_of}
use Rattle.ix_first_laws.specs.Least.{IsLeastHeight}
use Rattle.ix_height.specs.Spans.{IsOfUse, of_rule}
use Rattle.ix_choice.specs.Tasks.{CanDo, Does}
use Rattle.ix_choice.specs.declared.task.Task.TheVariants as task
use Rattle.ix_choice.proofs.Remaining.{can_do, first_at, next, started, walked}
use Rattle.ix_choice.proofs.SlotFacts.{first_is_named, root_listed}
use Rattle.ix_choice.proofs.walking.walk.Goals as goal

pub rule_height-bound-requires : goal.rule_height-bound-requires
rule_height-bound-requires c =
    subst (λ (z : Parts). IsOfUse z (of_rule 0 0 (length c.text.result.now))) (sym c.of-forest.ensures.plan)
    (subst (λ (z : List ℕ). IsOfUse c.args.plan.now (of_rule 0 0 (length z))) (sym c.text.ensures) (root_listed c.args.plan.now c.of-forest.ensures.planned c.args.set.now.ways c.requires.of_plan.ways c.requires.root))

pub loop-task-init : goal.loop-task-init
loop-task-init c =
    let plan = c.args.plan.now in
    let end = length c.text.result.now in
    let least : IsLeastHeight plan 0 0 end c.rule_height-bound.result = subst (λ (z : Parts). IsLeastHeight z 0 0 end c.rule_height-bound.result) c.of-forest.ensures.plan c.rule_height-bound.ensures in
    let used : IsOfUse plan (of_rule 0 0 end) = subst (λ (z : List ℕ). IsOfUse plan (of_rule 0 0 (length z))) (sym c.text.ensures) (root_listed plan c.of-forest.ensures.planned c.args.set.now.ways c.requires.of_plan.ways c.requires.root) in
    let first = first_at plan c.requires.nested (first_is_named plan c.of-forest.ensures.planned) end (ap length (sym c.text.ensures)) c.rule_height-bound.result least in
    started plan c.rule_height-bound.result (sy.Rule 0 None) 0 end (tree_of plan c.rule_height-bound.result (sy.Rule 0 None) 0 end) first.1 used
    c.push.new.self.items (c.in_ok-push.ensures.items ∙ ap (λ z. z ++ task.Tree (sy.Rule 0 None) 0 end c.rule_height-bound.result ∷ []) c.new-tasks.ensures.items) c.new-steps.result.items c.new-steps.ensures.items

pub do_task-requires-clause-can : goal.do_task-requires-clause-can
do_task-requires-clause-can c =
    let steps : List Step = walk c.args.plan.now.rules (tree_of c.args.plan.now c.rule_height-bound.result (sy.Rule 0 None) 0 (length c.text.result.now)) (sy.Rule 0 None) in
    subst (λ (z : Parts). CanDo z c.in-Some.task) (sym c.of-forest.ensures.plan)
    (can_do c.args.plan.now c.requires.nested steps c.loop-task.tasks.items c.pop.new.self.items c.pop.new.self.items c.in-Some.task c.loop-task.steps.items c.loop-task.steps.items c.in-Some.ensures.items c.loop-task.invariant)

pub loop-task-smaller : goal.loop-task-smaller
loop-task-smaller c =
    let steps : List Step = walk c.args.plan.now.rules (tree_of c.args.plan.now c.rule_height-bound.result (sy.Rule 0 None) 0 (length c.text.result.now)) (sy.Rule 0 None) in
    let does : Does c.args.plan.now c.in-Some.task c.pop.new.self.items c.do_task.new.tasks.items c.loop-task.steps.items c.do_task.new.steps.items = subst (λ (z : Parts). Does z c.in-Some.task c.pop.new.self.items c.do_task.new.tasks.items c.loop-task.steps.items c.do_task.new.steps.items) c.of-forest.ensures.plan c.in_ok-do_task.ensures in
    (next c.args.plan.now c.requires.nested steps c.loop-task.tasks.items c.pop.new.self.items c.do_task.new.tasks.items c.in-Some.task c.loop-task.steps.items c.do_task.new.steps.items c.in-Some.ensures.items c.loop-task.invariant does).1

pub loop-task-preserved : goal.loop-task-preserved
loop-task-preserved c =
    let steps : List Step = walk c.args.plan.now.rules (tree_of c.args.plan.now c.rule_height-bound.result (sy.Rule 0 None) 0 (length c.text.result.now)) (sy.Rule 0 None) in
    let does : Does c.args.plan.now c.in-Some.task c.pop.new.self.items c.do_task.new.tasks.items c.loop-task.steps.items c.do_task.new.steps.items = subst (λ (z : Parts). Does z c.in-Some.task c.pop.new.self.items c.do_task.new.tasks.items c.loop-task.steps.items c.do_task.new.steps.items) c.of-forest.ensures.plan c.in_ok-do_task.ensures in
    (next c.args.plan.now c.requires.nested steps c.loop-task.tasks.items c.pop.new.self.items c.do_task.new.tasks.items c.in-Some.task c.loop-task.steps.items c.do_task.new.steps.items c.in-Some.ensures.items c.loop-task.invariant does).0

pub returns-clause-numbered : goal.returns-clause-numbered
returns-clause-numbered c =
    let plan = c.args.plan.now in
    let end = length c.text.result.now in
    let tree = tree_of plan c.rule_height-bound.result (sy.Rule 0 None) 0 end in
    let least : IsLeastHeight plan 0 0 end c.rule_height-bound.result = subst (λ (z : Parts). IsLeastHeight z 0 0 end c.rule_height-bound.result) c.of-forest.ensures.plan c.rule_height-bound.ensures in
    let first = first_at plan c.requires.nested (first_is_named plan c.of-forest.ensures.planned) end (ap length (sym c.text.ensures)) c.rule_height-bound.result least in
    (tree, first.0, walked plan (walk plan.rules tree (sy.Rule 0 None)) c.loop-task.tasks.items c.loop-task.steps.items (search rules) c.loop-task.invariant)

pub returns-clause-written : goal.returns-clause-written
returns-clause-written c = λ g of_plan.
    let plan = c.args.plan.now in
    let end = length c.text.result.now in
    let tree = tree_of plan c.rule_height-bound.result (sy.Rule 0 None) 0 end in
    let least : IsLeastHeight plan 0 0 end c.rule_height-bound.result = subst (λ (z : Parts). IsLeastHeight z 0 0 end c.rule_height-bound.result) c.of-forest.ensures.plan c.rule_height-bound.ensures in
    let first = first_at plan c.requires.nested (first_is_named plan c.of-forest.ensures.planned) end (ap length (sym c.text.ensures)) c.rule_height-bound.result least in
    let is = walked plan (walk plan.rules tree (sy.Rule 0 None)) c.loop-task.tasks.items c.loop-task.steps.items (search rules) c.loop-task.invariant in
    (lift plan.rules tree, first_lifts g plan of_plan tree first.0, subst (λ (z : List Step). AreWalks plan.rules (bare_root g (lift plan.rules tree)) z) (sym is) (flat_walks g plan tree of_plan first.0.0))
