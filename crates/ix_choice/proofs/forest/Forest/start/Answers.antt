use Rattle.std.proofs.Common.{rules, ◌≡◌, ◌+◌, ◌-◌, ◌<◌, subst, sym, ℕ, length, get_or, arith}
use Rattle.std.specs.List.{Contains}
use Rattle.std.proofs.lemmas.List.Elements.{Contains-get_or}
use Rattle.ix_model.specs.Expansion.Parts.{Parts}
use Rattle.ix_model.specs.Expansion.Planned.{IsPlanned}
use Rattle.ix_subtrees.specs.Entries.{entry_for}
use Rattle.ix_subtrees.specs.Sets.{IsSetOf}
use Rattle.ix_choice.specs.SlotTrees.{MayStart}
use Rattle.ix_choice.proofs.Ascending.{none_yet, none_so_far, last_of_all, none_less}
use Rattle.ix_choice.proofs.ForestFacts.{start_useful}
use Rattle.ix_choice.proofs.forest.Forest.start.Goals as goal

pub loop-at-init : goal.loop-at-init
loop-at-init c = none_yet c.ways-pivots.result.now (MayStart c.args.self.now c.args.bound c.args.before c.args.sym c.args.low c.args.high)

pub may_start-requires-clause-useful : goal.may_start-requires-clause-useful
may_start-requires-clause-useful c =
    let set : IsSetOf c.args.self.now c.self.inside.set.now = subst (λ (z : Parts). IsSetOf z c.self.inside.set.now) c.self.view_is c.self.invariant.1 in
    let pivot : ℕ = get_or c.ways-pivots.result.now (c.loop-at.at - 1) 0 in
    (set.ways (entry_for (c.args.before + 1) c.args.low c.args.high pivot)).0 ((c.ways-pivots.ensures.members pivot).0 (Contains-get_or c.ways-pivots.result.now (c.loop-at.at - 1) 0 (omega (arith, c.loop-at-test.true))))

pub returns-then-may_start : goal.returns-then-may_start
returns-then-may_start c =
    let pivots = c.ways-pivots.result.now in
    let may = MayStart c.args.self.now c.args.bound c.args.before c.args.sym c.args.low c.args.high in
    let set : IsSetOf c.args.self.now c.self.inside.set.now = subst (λ (z : Parts). IsSetOf z c.self.inside.set.now) c.self.view_is c.self.invariant.1 in
    let planned : IsPlanned c.args.self.now = subst IsPlanned c.self.view_is c.self.invariant.0 in
    let found : may (get_or pivots (c.loop-at.at - 1) 0) = c.may_start.ensures.0 (search rules) in
    record {
      trees = found.0;
      tree = found.1;
      fit = found.2;
      fits = found.3;
      least = λ k es e less fit fits. none_less pivots may (c.loop-at.at - 1) c.ways-pivots.ensures.rising c.loop-at.invariant k less
          ((c.ways-pivots.ensures.members k).1 ((set.ways (entry_for (c.args.before + 1) c.args.low c.args.high k)).1 (start_useful c.args.self.now planned c.args.before (c.args.before + 1) c.args.low c.args.high c.args.sym c.requires.next c.args.bound k c.requires.used (es, e, fit, fits))))
          (es, e, fit, fits);
    }

pub loop-at-preserved : goal.loop-at-preserved
loop-at-preserved c =
    let pivots = c.ways-pivots.result.now in
    let may = MayStart c.args.self.now c.args.bound c.args.before c.args.sym c.args.low c.args.high in
    let next : (c.loop-at.at - 1) + 1 ≡ c.loop-at.at + 1 - 1 = omega (arith, c.loop-at.auto.at) in
    λ n h. none_so_far pivots may (c.loop-at.at - 1) c.loop-at.invariant (λ found. absurd (cc (c.may_start.ensures.1 found, c.if-may_start.false))) n (subst (λ (z : ℕ). n < z) (sym next) h)

pub overflow_sub-result : goal.overflow_sub-result
overflow_sub-result c =
    let set : IsSetOf c.args.self.now c.self.inside.set.now = subst (λ (z : Parts). IsSetOf z c.self.inside.set.now) c.self.view_is c.self.invariant.1 in
    let planned : IsPlanned c.args.self.now = subst IsPlanned c.self.view_is c.self.invariant.0 in
    let some = c.requires.some in
    let there : Contains c.ways-pivots.result.now some.0 =
    (c.ways-pivots.ensures.members some.0).1 ((set.ways (entry_for (c.args.before + 1) c.args.low c.args.high some.0)).1 (start_useful c.args.self.now planned c.args.before (c.args.before + 1) c.args.low c.args.high c.args.sym c.requires.next c.args.bound some.0 c.requires.used some.1)) in
    omega (arith, there.1)

pub bounds-pivots-pivots : goal.bounds-pivots-pivots
bounds-pivots-pivots c =
    let set : IsSetOf c.args.self.now c.self.inside.set.now = subst (λ (z : Parts). IsSetOf z c.self.inside.set.now) c.self.view_is c.self.invariant.1 in
    let planned : IsPlanned c.args.self.now = subst IsPlanned c.self.view_is c.self.invariant.0 in
    let some = c.requires.some in
    let there : Contains c.ways-pivots.result.now some.0 =
    (c.ways-pivots.ensures.members some.0).1 ((set.ways (entry_for (c.args.before + 1) c.args.low c.args.high some.0)).1 (start_useful c.args.self.now planned c.args.before (c.args.before + 1) c.args.low c.args.high c.args.sym c.requires.next c.args.bound some.0 c.requires.used some.1)) in
    omega (arith, there.1)

pub returns : goal.returns
returns c =
    let set : IsSetOf c.args.self.now c.self.inside.set.now = subst (λ (z : Parts). IsSetOf z c.self.inside.set.now) c.self.view_is c.self.invariant.1 in
    let planned : IsPlanned c.args.self.now = subst IsPlanned c.self.view_is c.self.invariant.0 in
    let some = c.requires.some in
    let there : Contains c.ways-pivots.result.now some.0 =
    (c.ways-pivots.ensures.members some.0).1 ((set.ways (entry_for (c.args.before + 1) c.args.low c.args.high some.0)).1 (start_useful c.args.self.now planned c.args.before (c.args.before + 1) c.args.low c.args.high c.args.sym c.requires.next c.args.bound some.0 c.requires.used some.1)) in
    let pivots = c.ways-pivots.result.now in
    let may = MayStart c.args.self.now c.args.bound c.args.before c.args.sym c.args.low c.args.high in
    let at_end = c.loop-at.auto.at-end (omega (arith, there.1)) in
    let end : c.loop-at.at ≡ length pivots = omega (arith, at_end, c.loop-at-test.false) in
    let none = subst (λ (z : ℕ). (n : ℕ) → n < z - 1 → may (get_or pivots n 0) → ⊥) end c.loop-at.invariant in
    let last = last_of_all pivots may (length pivots - 1) (omega arith) none some.0 there some.1 in
    let found : may (get_or pivots (length pivots - 1) 0) = subst may (sym last.1) some.1 in
    record {
      trees = found.0;
      tree = found.1;
      fit = found.2;
      fits = found.3;
      least = λ k es e less fit fits. none_less pivots may (length pivots - 1) c.ways-pivots.ensures.rising none k less
          ((c.ways-pivots.ensures.members k).1 ((set.ways (entry_for (c.args.before + 1) c.args.low c.args.high k)).1 (start_useful c.args.self.now planned c.args.before (c.args.before + 1) c.args.low c.args.high c.args.sym c.requires.next c.args.bound k c.requires.used (es, e, fit, fits))))
          (es, e, fit, fits);
    }
