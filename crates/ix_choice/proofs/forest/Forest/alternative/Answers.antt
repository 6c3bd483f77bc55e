use Rattle.std.proofs.Common.{◌≡◌, ◌+◌, ◌-◌, ◌<◌, subst, sym, ℕ, length, get_or, arith}
use Rattle.std.specs.List.{Contains}
use Rattle.std.proofs.lemmas.List.Elements.{Contains-get_or}
use Rattle.ix_model.specs.Expansion.Parts.{Parts}
use Rattle.ix_model.specs.Expansion.Planned.{IsPlanned}
use Rattle.ix_model.specs.Expansion.Numbered.{lines_at, syms_at}
use Rattle.ix_model.specs.Expansion.Slots.{IsSlot}
use Rattle.ix_first_laws.specs.Least.{IsLeastAlt}
use Rattle.ix_subtrees.specs.Sets.{IsSetOf}
use Rattle.ix_choice.proofs.Ascending.{none_yet, none_so_far, last_of_all, none_less}
use Rattle.ix_choice.proofs.ForestFacts.{HasAlt, Listed, listed, alt_listed}
use Rattle.ix_choice.proofs.forest.Forest.alternative.Goals as goal

pub loop-at-init : goal.loop-at-init
loop-at-init c = none_yet c.alts-alts.result.now (HasAlt c.args.self.now c.args.bound c.args.rule c.args.low c.args.high)

pub fits-requires-clause-used : goal.fits-requires-clause-used
fits-requires-clause-used c =
    let set : IsSetOf c.args.self.now c.self.inside.set.now = subst (λ (z : Parts). IsSetOf z c.self.inside.set.now) c.self.view_is c.self.invariant.1 in
    let alt : ℕ = get_or c.alts-alts.result.now (c.loop-at.at - 1) 0 in
    let entry : Listed c.args.self.now c.args.rule alt c.args.low c.args.high =
    listed c.args.self.now c.self.inside.set.now.alts set.alts c.args.rule alt c.args.low c.args.high ((c.alts-alts.ensures.members alt).0 (Contains-get_or c.alts-alts.result.now (c.loop-at.at - 1) 0 (omega (arith, c.loop-at-test.true)))) in
    entry.used

pub fits-requires-clause-rule : goal.fits-requires-clause-rule
fits-requires-clause-rule c =
    let set : IsSetOf c.args.self.now c.self.inside.set.now = subst (λ (z : Parts). IsSetOf z c.self.inside.set.now) c.self.view_is c.self.invariant.1 in
    let alt : ℕ = get_or c.alts-alts.result.now (c.loop-at.at - 1) 0 in
    let entry : Listed c.args.self.now c.args.rule alt c.args.low c.args.high =
    listed c.args.self.now c.self.inside.set.now.alts set.alts c.args.rule alt c.args.low c.args.high ((c.alts-alts.ensures.members alt).0 (Contains-get_or c.alts-alts.result.now (c.loop-at.at - 1) 0 (omega (arith, c.loop-at-test.true)))) in
    entry.rule_there

pub fits-requires-clause-alt : goal.fits-requires-clause-alt
fits-requires-clause-alt c =
    let set : IsSetOf c.args.self.now c.self.inside.set.now = subst (λ (z : Parts). IsSetOf z c.self.inside.set.now) c.self.view_is c.self.invariant.1 in
    let alt : ℕ = get_or c.alts-alts.result.now (c.loop-at.at - 1) 0 in
    let entry : Listed c.args.self.now c.args.rule alt c.args.low c.args.high =
    listed c.args.self.now c.self.inside.set.now.alts set.alts c.args.rule alt c.args.low c.args.high ((c.alts-alts.ensures.members alt).0 (Contains-get_or c.alts-alts.result.now (c.loop-at.at - 1) 0 (omega (arith, c.loop-at-test.true)))) in
    entry.alt_there

pub returns-in-Some : goal.returns-in-Some
returns-in-Some c =
    let set : IsSetOf c.args.self.now c.self.inside.set.now = subst (λ (z : Parts). IsSetOf z c.self.inside.set.now) c.self.view_is c.self.invariant.1 in
    let alt : ℕ = get_or c.alts-alts.result.now (c.loop-at.at - 1) 0 in
    let entry : Listed c.args.self.now c.args.rule alt c.args.low c.args.high =
    listed c.args.self.now c.self.inside.set.now.alts set.alts c.args.rule alt c.args.low c.args.high ((c.alts-alts.ensures.members alt).0 (Contains-get_or c.alts-alts.result.now (c.loop-at.at - 1) 0 (omega (arith, c.loop-at-test.true)))) in
    let planned : IsPlanned c.args.self.now = subst IsPlanned c.self.view_is c.self.invariant.0 in
    let found = c.in-Some.ensures.some in
    let least : IsLeastAlt c.args.self.now c.args.bound c.args.rule c.args.low c.args.high alt = record {
      inside = entry.alt_there;
      trees = found.1.0;
      fit = found.1.1;
      least = λ a es less within. none_less c.alts-alts.result.now (HasAlt c.args.self.now c.args.bound c.args.rule c.args.low c.args.high) (c.loop-at.at - 1) c.alts-alts.ensures.rising c.loop-at.invariant a less
          ((c.alts-alts.ensures.members a).1 (alt_listed c.args.self.now planned c.self.inside.set.now.alts set.alts c.args.bound c.args.rule a c.args.low c.args.high es c.requires.used (omega (arith, less, entry.alt_there)) within))
          (es, within);
    } in
    (alt, least, found.0)

pub loop-at-preserved : goal.loop-at-preserved
loop-at-preserved c =
    let next : (c.loop-at.at - 1) + 1 ≡ c.loop-at.at + 1 - 1 = omega (arith, c.loop-at.auto.at) in
    λ n h. none_so_far c.alts-alts.result.now (HasAlt c.args.self.now c.args.bound c.args.rule c.args.low c.args.high) (c.loop-at.at - 1) c.loop-at.invariant (λ found. c.fits.ensures.none c.in_default.is found.0 found.1) n (subst (λ (z : ℕ). n < z) (sym next) h)

pub overflow_sub-alts : goal.overflow_sub-alts
overflow_sub-alts c =
    let set : IsSetOf c.args.self.now c.self.inside.set.now = subst (λ (z : Parts). IsSetOf z c.self.inside.set.now) c.self.view_is c.self.invariant.1 in
    let planned : IsPlanned c.args.self.now = subst IsPlanned c.self.view_is c.self.invariant.0 in
    let some = c.requires.some in
    let there : Contains c.alts-alts.result.now some.0 =
    (c.alts-alts.ensures.members some.0).1 (alt_listed c.args.self.now planned c.self.inside.set.now.alts set.alts c.args.bound c.args.rule some.0 c.args.low c.args.high some.1 c.requires.used some.2 some.3) in
    omega (arith, there.1)

pub bounds-alts-alts : goal.bounds-alts-alts
bounds-alts-alts c =
    let set : IsSetOf c.args.self.now c.self.inside.set.now = subst (λ (z : Parts). IsSetOf z c.self.inside.set.now) c.self.view_is c.self.invariant.1 in
    let planned : IsPlanned c.args.self.now = subst IsPlanned c.self.view_is c.self.invariant.0 in
    let some = c.requires.some in
    let there : Contains c.alts-alts.result.now some.0 =
    (c.alts-alts.ensures.members some.0).1 (alt_listed c.args.self.now planned c.self.inside.set.now.alts set.alts c.args.bound c.args.rule some.0 c.args.low c.args.high some.1 c.requires.used some.2 some.3) in
    omega (arith, there.1)

pub last-requires-clause-rule : goal.last-requires-clause-rule
last-requires-clause-rule c =
    let set : IsSetOf c.args.self.now c.self.inside.set.now = subst (λ (z : Parts). IsSetOf z c.self.inside.set.now) c.self.view_is c.self.invariant.1 in
    let planned : IsPlanned c.args.self.now = subst IsPlanned c.self.view_is c.self.invariant.0 in
    let some = c.requires.some in
    let there : Contains c.alts-alts.result.now some.0 =
    (c.alts-alts.ensures.members some.0).1 (alt_listed c.args.self.now planned c.self.inside.set.now.alts set.alts c.args.bound c.args.rule some.0 c.args.low c.args.high some.1 c.requires.used some.2 some.3) in
    let alts = c.alts-alts.result.now in
    let alt : ℕ = get_or alts (length alts - 1) 0 in
    let entry : Listed c.args.self.now c.args.rule alt c.args.low c.args.high =
    listed c.args.self.now c.self.inside.set.now.alts set.alts c.args.rule alt c.args.low c.args.high ((c.alts-alts.ensures.members alt).0 (Contains-get_or alts (length alts - 1) 0 (omega (arith, there.1)))) in
    subst (λ (z : Parts). c.args.rule < length z.rules.flats) (sym c.self.view_is) entry.rule_there

pub last-requires-clause-alt : goal.last-requires-clause-alt
last-requires-clause-alt c =
    let set : IsSetOf c.args.self.now c.self.inside.set.now = subst (λ (z : Parts). IsSetOf z c.self.inside.set.now) c.self.view_is c.self.invariant.1 in
    let planned : IsPlanned c.args.self.now = subst IsPlanned c.self.view_is c.self.invariant.0 in
    let some = c.requires.some in
    let there : Contains c.alts-alts.result.now some.0 =
    (c.alts-alts.ensures.members some.0).1 (alt_listed c.args.self.now planned c.self.inside.set.now.alts set.alts c.args.bound c.args.rule some.0 c.args.low c.args.high some.1 c.requires.used some.2 some.3) in
    let alts = c.alts-alts.result.now in
    let alt : ℕ = get_or alts (length alts - 1) 0 in
    let entry : Listed c.args.self.now c.args.rule alt c.args.low c.args.high =
    listed c.args.self.now c.self.inside.set.now.alts set.alts c.args.rule alt c.args.low c.args.high ((c.alts-alts.ensures.members alt).0 (Contains-get_or alts (length alts - 1) 0 (omega (arith, there.1)))) in
    subst (λ (z : Parts). alt < length (lines_at z.rules c.args.rule)) (sym c.self.view_is) entry.alt_there

pub returns : goal.returns
returns c =
    let set : IsSetOf c.args.self.now c.self.inside.set.now = subst (λ (z : Parts). IsSetOf z c.self.inside.set.now) c.self.view_is c.self.invariant.1 in
    let planned : IsPlanned c.args.self.now = subst IsPlanned c.self.view_is c.self.invariant.0 in
    let some = c.requires.some in
    let there : Contains c.alts-alts.result.now some.0 =
    (c.alts-alts.ensures.members some.0).1 (alt_listed c.args.self.now planned c.self.inside.set.now.alts set.alts c.args.bound c.args.rule some.0 c.args.low c.args.high some.1 c.requires.used some.2 some.3) in
    let alts = c.alts-alts.result.now in
    let alt : ℕ = get_or alts (length alts - 1) 0 in
    let entry : Listed c.args.self.now c.args.rule alt c.args.low c.args.high =
    listed c.args.self.now c.self.inside.set.now.alts set.alts c.args.rule alt c.args.low c.args.high ((c.alts-alts.ensures.members alt).0 (Contains-get_or alts (length alts - 1) 0 (omega (arith, there.1)))) in
    let has = HasAlt c.args.self.now c.args.bound c.args.rule c.args.low c.args.high in
    let at_end = c.loop-at.auto.at-end (omega (arith, there.1)) in
    let end : c.loop-at.at ≡ length alts = omega (arith, at_end, c.loop-at-test.false) in
    let none = subst (λ (z : ℕ). (n : ℕ) → n < z - 1 → has (get_or alts n 0) → ⊥) end c.loop-at.invariant in
    let is_last = last_of_all alts has (length alts - 1) (omega arith) none some.0 there (some.1, some.3) in
    let found : has alt = subst has (sym is_last.1) (some.1, some.3) in
    let slot : IsSlot c.args.self.now c.last.result c.args.rule alt (length (syms_at c.args.self.now.rules c.args.rule alt)) = subst (λ (z : Parts). IsSlot z c.last.result c.args.rule alt (length (syms_at z.rules c.args.rule alt))) c.self.view_is c.last.ensures in
    let least : IsLeastAlt c.args.self.now c.args.bound c.args.rule c.args.low c.args.high alt = record {
      inside = entry.alt_there;
      trees = found.0;
      fit = found.1;
      least = λ a es less within. none_less c.alts-alts.result.now (HasAlt c.args.self.now c.args.bound c.args.rule c.args.low c.args.high) (length alts - 1) c.alts-alts.ensures.rising none a less
          ((c.alts-alts.ensures.members a).1 (alt_listed c.args.self.now planned c.self.inside.set.now.alts set.alts c.args.bound c.args.rule a c.args.low c.args.high es c.requires.used (omega (arith, less, entry.alt_there)) within))
          (es, within);
    } in
    (alt, least, slot)
