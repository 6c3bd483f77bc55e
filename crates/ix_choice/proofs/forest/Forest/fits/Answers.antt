use Rattle.std.proofs.Common.{rules, subst, arith, length}
use mathlib.Core.Logic.{inr}
use Rattle.ix_model.specs.Expansion.Planned.{IsPlanned}
use Rattle.ix_model.specs.Expansion.Slots.{IsSlot}
use Rattle.ix_model.specs.Expansion.Numbered.{syms_at}
use Rattle.ix_choice.proofs.SlotFacts.{slot_there}
use Rattle.ix_choice.proofs.ForestFacts.{end_is, fits, slot_trees}
use Rattle.ix_choice.proofs.forest.Forest.fits.Goals as goal

pub height_before-requires-clause-used : goal.height_before-requires-clause-used
height_before-requires-clause-used c =
    let planned : IsPlanned c.args.self.now = subst IsPlanned c.self.view_is c.self.invariant.0 in
    let at : IsSlot c.args.self.now c.last-last.result c.args.rule c.args.alt (length (syms_at c.args.self.now.rules c.args.rule c.args.alt)) = search rules in
    let used = c.requires.used in (
      slot_there c.args.self.now c.last-last.result c.args.rule c.args.alt (length (syms_at c.args.self.now.rules c.args.rule c.args.alt)) at,
      inr (end_is c.args.self.now planned used.0 c.last-last.result c.args.rule c.args.alt (length (syms_at c.args.self.now.rules c.args.rule c.args.alt)) c.args.low c.args.high used.1 at used.2),
    )

pub height_before-requires-clause-trees : goal.height_before-requires-clause-trees
height_before-requires-clause-trees c =
    let planned : IsPlanned c.args.self.now = subst IsPlanned c.self.view_is c.self.invariant.0 in
    let at : IsSlot c.args.self.now c.last-last.result c.args.rule c.args.alt (length (syms_at c.args.self.now.rules c.args.rule c.args.alt)) = search rules in
    let used = c.requires.used in
    slot_trees c.args.self.now planned c.last-last.result c.args.low c.args.high
    (end_is c.args.self.now planned used.0 c.last-last.result c.args.rule c.args.alt (length (syms_at c.args.self.now.rules c.args.rule c.args.alt)) c.args.low c.args.high used.1 at used.2)

pub returns-then-height_before-bound-clause-some : goal.returns-then-height_before-bound-clause-some
returns-then-height_before-bound-clause-some c =
    let planned : IsPlanned c.args.self.now = subst IsPlanned c.self.view_is c.self.invariant.0 in
    let at : IsSlot c.args.self.now c.last-last.result c.args.rule c.args.alt (length (syms_at c.args.self.now.rules c.args.rule c.args.alt)) = search rules in
    (at, (fits c.args.self.now planned c.args.bound c.last-last.result c.args.rule c.args.alt c.args.low c.args.high c.height_before.result at c.height_before.ensures).0 c.if-height_before-bound.true)

pub returns-else-height_before-bound-clause-none : goal.returns-else-height_before-bound-clause-none
returns-else-height_before-bound-clause-none c =
    let planned : IsPlanned c.args.self.now = subst IsPlanned c.self.view_is c.self.invariant.0 in
    let at : IsSlot c.args.self.now c.last-last.result c.args.rule c.args.alt (length (syms_at c.args.self.now.rules c.args.rule c.args.alt)) = search rules in
    λ _ ds within. omega (arith, c.if-height_before-bound.false, (fits c.args.self.now planned c.args.bound c.last-last.result c.args.rule c.args.alt c.args.low c.args.high c.height_before.result at c.height_before.ensures).1 (ds, within))
