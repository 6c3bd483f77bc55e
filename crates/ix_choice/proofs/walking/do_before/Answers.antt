use Rattle.std.proofs.Common.{sym, subst, ℕ}
use Rattle.ix_model.specs.Expansion.SlotPlaces.{HasNext}
use Rattle.ix_height.specs.Spans.{IsOfUse, of_slot}
use Rattle.ix_choice.proofs.Doing.{nothing_done, start_does}
use Rattle.ix_choice.proofs.SlotFacts.{slot_used, some_start}
use Rattle.ix_choice.proofs.walking.do_before.Goals as goal

pub before-requires : goal.before-requires
before-requires c = c.requires.can.2.2.0

pub start-pivot-requires-clause-next : goal.start-pivot-requires-clause-next
start-pivot-requires-clause-next c = let next = c.in-Some.ensures.some in subst (λ (s : ℕ). HasNext c.args.forest.now c.in-Some.before s c.in-Some.sym) (sym next.0) next.1

pub start-pivot-requires-clause-used : goal.start-pivot-requires-clause-used
start-pivot-requires-clause-used c =
    let next = c.in-Some.ensures.some in
    subst (λ (s : ℕ). IsOfUse c.args.forest.now (of_slot s c.args.low c.args.high)) (sym next.0)
    (slot_used c.args.forest.now c.requires.planned c.in-Some.before c.args.slot c.in-Some.sym next.1 c.args.low c.args.high c.requires.can.2.2)

pub start-pivot-requires-clause-some : goal.start-pivot-requires-clause-some
start-pivot-requires-clause-some c =
    let trees = c.requires.can in
    some_start c.args.forest.now c.requires.planned c.in-Some.before c.args.slot c.in-Some.sym c.in-Some.ensures.some.1 c.args.bound c.args.low c.args.high trees.2.0 trees.2.1.within

pub returns-in_default : goal.returns-in_default
returns-in_default c = λ steps. nothing_done c.args.forest.now c.args.tasks.now.items steps c.args.slot c.args.low c.args.high c.args.bound (c.before-2.ensures.none c.in_default.is)

pub returns-in_ok-extend_from_slice : goal.returns-in_ok-extend_from_slice
returns-in_ok-extend_from_slice c = λ steps. start_does c.args.forest.now c.requires.planned c.requires.nested c.args.tasks.now.items c.extend_from_slice.new.self.items steps c.in-Some.before c.args.slot c.args.low c.args.high c.args.bound c.start-pivot.result c.in-Some.sym c.in-Some.ensures.some.1 c.start-pivot.ensures c.in_ok-extend_from_slice.ensures.items
