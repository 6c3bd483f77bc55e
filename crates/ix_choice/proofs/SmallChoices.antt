-- The worked examples of the trees before a slot's dot, and of the choices between them.
use Rattle.std.proofs.Common.{◌≡◌, refl, ap, sym, subst, ◌∙◌, ◌⊎◌, ◌+◌, ◌<◌, ◌≤◌, ℕ, zero, suc, true, List, length, None, codes, arith}
use mathlib.Core.Logic.{inl, inr}
use Rattle.ix_model.specs.declared.rules.Sym.{Sym}
use Rattle.ix_model.specs.Expansion.Numbered.{syms_at}
use Rattle.ix_model.specs.Expansion.FlatTrees.{FlatTree, flat_text, flat_insertion, FlatTrees, no_flat, flats_and, flat_count}
use Rattle.ix_model.specs.Expansion.FlatDerives.{FlatDerives, FlatDerivesFirst, IsFlatDerivation}
use Rattle.ix_model.specs.Expansion.FlatHeights.{flat_height, flat_heights}
use Rattle.ix_model.specs.Expansion.FlatOrder.{FlatsBefore}
use Rattle.ix_model.specs.Closure.Useful.{sub_at, Useful}
use Rattle.ix_model.proofs.SlotPlaces.{same_slot}
use Rattle.ix_examples.specs.SmallPlans.{a_by, alone, call, in_second, literal, pair}
use Rattle.ix_examples.proofs.SmallPlans.{literal_stands, literal_derived}
use Rattle.ix_expansion_laws.proofs.Children.{one_child}
use Rattle.ix_first_laws.specs.Least.{AltWithin}
use Rattle.ix_first_laws.proofs.CycleTrees.{cycle_fits, cycle_line, derived_a, literal_fits}
use Rattle.ix_first_laws.proofs.Fits.{Whatever, whatever}
use Rattle.ix_first_laws.proofs.HalfTrees.{HalfTree, is_full, is_empty, two, half_tree, half_height, derived_full, best_one, best_two, full_first, first_second, no_pair_before}
use Rattle.ix_first_laws.proofs.Lines.{line_syms, line_within}
use Rattle.ix_first_laws.proofs.Nodes.{by_node}
use Rattle.ix_choice.specs.Examples.{halves, by_cycle, no_derivation, full, empty}
use Rattle.ix_choice.specs.SlotTrees.{AreBefore}
use Rattle.ix_choice.specs.SlotLaws.{NoneIsBefore, OneIsBefore, TwoAreBefore, TwoAreTooMany, OneHasItsSpan, NoneIsFlat, OneIsOneHigh, OneIsNotFlat, OneIsNotTwoHigh, RuleIsOneHigh, LiteralIsFlat, InsertionIsFlat, RuleIsNotFlat, RuleIsNotTwoHigh, LiteralIsNotEmpty, TwoAreWithinOne, TwoAreNotWithinZero, OneIsTooFew, SoonerIsFirst, LaterIsNotFirst, NoneIsFirstWithinZero, MayStartSooner, MayStartLater, LiteralMayStart, NothingLeadsToIt, NothingComesOfIt, TooHighBefore, TooHighItself, SoonerIsLeast, OnlyIsLeast, LaterIsNotLeast, NoneIsLeastWithinZero, LiteralEndsWithinZero, CallEndsWithinOne, LaterRuleHasItsEnd, CallIsTooHigh, LiteralIsNotFirst, BeginningIsNoEnd, RuleIsOfUse, RuleIsOfNoUse, SlotIsOfUse, BeginningIsOfUse, SlotIsOfNoUse, NoSlotIsOfNoUse}

-- ---- trees of A

half_is_one : (d : FlatTree) (i j : ℕ) → HalfTree d i j → flat_height halves.rules d ≡ 1
half_is_one d i j is_full = refl
half_is_one d i j (is_empty _) = refl

half_goes_up : (d : FlatTree) (i j : ℕ) → HalfTree d i j → i ≤ j
half_goes_up d i j is_full = omega arith
half_goes_up d i j (is_empty _) = omega arith

full_is_not_empty : (i : ℕ) → HalfTree full i i → ⊥
full_is_not_empty i h = go full i i h refl refl
  where
    go : (d : FlatTree) (i j : ℕ) → HalfTree d i j → d ≡ full → i ≡ j → ⊥
    go d i j is_full e f = omega (arith, f)
    go d i j (is_empty _) e f = absurd (cc e)

-- the trees before slot 1
one_before : (ds : FlatTrees) (i j : ℕ) → AreBefore halves 1 i j ds → (d : FlatTree) × (ds ≡ alone d) × HalfTree d i j
one_before no_flat i j h = let n : 0 ≡ 1 = h.1 in absurd (omega (arith, n))
one_before (flats_and no_flat d) i j ((k, x, a, at, h), n) =
    let q : x ≡ call 1 = cc at in
    (d, refl, half_tree d i j (subst (λ (z : ℕ). FlatDerives halves d (call 1) z j) (sym a) (subst (λ z. FlatDerives halves d z k j) q h)))
one_before (flats_and (flats_and ds e) d) i j h = let n : flat_count ds + 1 + 1 ≡ 1 = h.1 in absurd (omega (arith, n))

one_is_one : (ds : FlatTrees) (i j : ℕ) → AreBefore halves 1 i j ds → flat_heights halves.rules ds ≡ 1
one_is_one ds i j h = let v = one_before ds i j h in ap (λ z. flat_heights halves.rules z) v.1 ∙ by_height v.0 (half_is_one v.0 i j v.2)
  where
    by_height : (d : FlatTree) → flat_height halves.rules d ≡ 1 → flat_heights halves.rules (alone d) ≡ 1
    by_height d e = omega (arith, e)

-- two trees of A are one high at least
pub two_is_high : (ds : FlatTrees) (i j : ℕ) → flat_count ds ≡ 2 → FlatDerivesFirst halves ds two i j → 1 ≤ flat_heights halves.rules ds
two_is_high no_flat i j n h = absurd (omega (arith, n))
two_is_high (flats_and ds d) i j n (k, x, a, at, h) =
    let m : flat_count ds ≡ 1 = omega (arith, n) in
    let q : x ≡ call 1 = cc (m, at) in
    omega (arith, half_height d k j (subst (λ z. FlatDerives halves d z k j) q h))

-- ---- trees before the dot

pub none_is_before : NoneIsBefore
none_is_before = (refl, refl)

pub one_is_before : OneIsBefore
one_is_before = (full_first.0, refl)

pub two_are_before : TwoAreBefore
two_are_before = (best_two.within.0, refl)

pub two_are_too_many : TwoAreTooMany
two_are_too_many h = let n : 2 ≡ 1 = h.1 in omega (arith, n)

pub one_has_its_span : OneHasItsSpan
unfolding one_before
one_has_its_span h = full_is_not_empty 0 (one_before (alone full) 0 0 h).2

-- ---- heights

pub none_is_flat : NoneIsFlat
none_is_flat = (no_flat, (refl, refl), refl)

pub one_is_one_high : OneIsOneHigh
one_is_one_high = (alone full, one_is_before, refl)

pub one_is_not_flat : OneIsNotFlat
one_is_not_flat (ds, h, e) = omega (arith, e, one_is_one ds 0 1 h)

pub one_is_not_two_high : OneIsNotTwoHigh
one_is_not_two_high (ds, h, e) = omega (arith, e, one_is_one ds 0 1 h)

pub rule_is_one_high : RuleIsOneHigh
rule_is_one_high = (full, derived_full, refl)

pub literal_is_flat : LiteralIsFlat
literal_is_flat = (flat_text 0 1, (refl, refl, (0, true, _, refl, refl, (refl, omega arith, refl))), refl)

pub insertion_is_flat : InsertionIsFlat
insertion_is_flat = (flat_insertion, (0, refl, refl), refl)

pub rule_is_not_flat : RuleIsNotFlat
rule_is_not_flat (d, h, e) = omega (arith, e, half_is_one d 0 1 (half_tree d 0 1 h))

pub rule_is_not_two_high : RuleIsNotTwoHigh
rule_is_not_two_high (d, h, e) = omega (arith, e, half_is_one d 0 1 (half_tree d 0 1 h))

pub literal_is_not_empty : LiteralIsNotEmpty
literal_is_not_empty (d, h, e) = let s = literal_stands halves 0 0 0 (codes "a") refl (literal_derived halves d 0 0 0 h) in omega (arith, s.0)

-- ---- trees within a bound

pub two_are_within_one : TwoAreWithinOne
two_are_within_one = best_two.within

pub two_are_not_within_zero : TwoAreNotWithinZero
two_are_not_within_zero h = let l : 1 ≤ 0 = h.2 in omega (arith, l)

pub one_is_too_few : OneIsTooFew
one_is_too_few h = let n : 1 ≡ 2 = h.1 in omega (arith, n)

pub sooner_is_first : SoonerIsFirst
sooner_is_first = best_two

pub later_is_not_first : LaterIsNotFirst
later_is_not_first best = by_order (best.before (pair empty full) best_two.within)
  where
    by_order : (pair empty full ≡ pair full empty) ⊎ FlatsBefore halves.rules (pair full empty) (pair empty full) 1 → ⊥
    by_order (inl e) = absurd (cc e)
    by_order (inr h) = no_pair_before h

pub none_is_first_within_zero : NoneIsFirstWithinZero
none_is_first_within_zero best = two_are_not_within_zero best.within

-- ---- starts

pub may_start_sooner : MayStartSooner
may_start_sooner = (alone empty, full, best_one.within, (derived_full, omega arith))

derived_behind : FlatDerives halves empty (call 1) 1 1
derived_behind = (None, refl, _, (_, _, refl, refl, refl), refl, refl)

pub may_start_later : MayStartLater
may_start_later = (alone full, empty, full_first, (derived_behind, omega arith))

pub literal_may_start : LiteralMayStart
literal_may_start = (no_flat, flat_text 0 1, (refl, refl, omega arith), ((refl, refl, (0, true, _, refl, refl, (refl, omega arith, refl))), omega arith))

pub nothing_leads_to_it : NothingLeadsToIt
nothing_leads_to_it (ds, d, (trees, count, _), _) = let v = one_before ds 1 0 (trees, count) in let l : 1 ≤ 0 = half_goes_up v.0 1 0 v.2 in omega (arith, l)

pub nothing_comes_of_it : NothingComesOfIt
nothing_comes_of_it (ds, d, _, (tree, _)) = let l : 1 ≤ 0 = half_goes_up d 1 0 (half_tree d 1 0 tree) in omega (arith, l)

pub too_high_before : TooHighBefore
too_high_before (ds, d, (trees, count, high), _) = omega (arith, high, one_is_one ds 0 0 (trees, count))

pub too_high_itself : TooHighItself
too_high_itself (ds, d, _, (tree, high)) = omega (arith, high, half_height d 0 1 tree)

pub sooner_is_least : SoonerIsLeast
sooner_is_least = record { trees = alone empty; tree = full; fit = best_one.within; fits = (derived_full, omega arith); least = λ l es e h. absurd (omega (arith, h)) }

pub only_is_least : OnlyIsLeast
only_is_least = record { trees = no_flat; tree = a_by 1; fit = (refl, refl, omega arith); fits = (derived_a, omega arith); least = λ l es e h. absurd (omega (arith, h)) }

pub later_is_not_least : LaterIsNotLeast
later_is_not_least h = h.least 0 (alone empty) full (omega arith) best_one.within (derived_full, omega arith)

pub none_is_least_within_zero : NoneIsLeastWithinZero
none_is_least_within_zero k h = omega (arith, h.fits.1, half_height h.tree k 1 h.fits.0)

-- ---- the end of the first alternative

pub literal_ends_within_zero : LiteralEndsWithinZero
literal_ends_within_zero = (1, record { inside = omega arith; trees = alone (flat_text 0 1); fit = literal_fits; least = none }, refl)
  where
    none : (a : ℕ) (es : FlatTrees) → a < 1 → AltWithin by_cycle 0 0 0 1 a es → ⊥
    none zero es l h = omega (arith, cycle_line 0 es 0 1 h)
    none (suc a) es l h = omega (arith, l)

pub call_ends_within_one : CallEndsWithinOne
call_ends_within_one = (0, record { inside = omega arith; trees = alone (a_by 1); fit = cycle_fits; least = λ a es l h. omega (arith, l) }, refl)

pub later_rule_has_its_end : LaterRuleHasItsEnd
later_rule_has_its_end = (
  0,
  record { inside = omega arith; trees = alone (flat_text 0 1); fit = ((0, _, refl, refl, (refl, refl, (0, true, _, refl, refl, (refl, omega arith, refl)))), refl, omega arith); least = λ a es l h. omega (arith, l) },
  refl,
)

pub call_is_too_high : CallIsTooHigh
call_is_too_high (a, p, at) =
    let e : 0 ≡ a = (same_slot by_cycle 1 0 0 1 0 a (length (syms_at by_cycle.rules 0 a)) refl at).1 in
    omega (arith, cycle_line 0 p.trees 0 1 (subst (λ (z : ℕ). AltWithin by_cycle 0 0 0 1 z p.trees) (sym e) p.fit))

pub literal_is_not_first : LiteralIsNotFirst
literal_is_not_first (a, p, at) =
    let e : 1 ≡ a = (same_slot by_cycle 3 0 1 1 0 a (length (syms_at by_cycle.rules 0 a)) refl at).1 in
    p.least 0 (alone (a_by 1)) (omega (arith, e)) cycle_fits

pub beginning_is_no_end : BeginningIsNoEnd
beginning_is_no_end (a, p, at) =
    let e = same_slot by_cycle 2 0 1 0 0 a (length (syms_at by_cycle.rules 0 a)) refl at in
    let n : 0 ≡ 1 = subst (λ (z : ℕ). 0 ≡ length (syms_at by_cycle.rules 0 z)) (sym e.1) e.2 in
    omega (arith, n)

-- ---- use

useful_root : Useful halves (sub_at 2 0 0 1)
useful_root = (in_second, first_second.0, inr (inl (2, refl, refl)))

pub rule_is_of_use : RuleIsOfUse
rule_is_of_use = (2, 0, (0, _, refl, (_, _, refl, refl, refl)), useful_root)

pub slot_is_of_use : SlotIsOfUse
slot_is_of_use = (omega arith, inr (0, useful_root))

-- `ab` is no S
no_line : (a : ℕ) (ds : FlatTrees) (syms : List Sym) → syms_at no_derivation.rules 0 a ≡ syms → a < 1 → flat_count ds ≡ length syms → FlatDerivesFirst no_derivation ds syms 0 2 → ⊥
no_line zero ds syms e l n h =
    let v = one_child no_derivation Whatever ds (whatever ds) (literal 0) 0 2 (n ∙ sym (ap (λ (xs : List Sym). length xs) e)) (subst (λ zs. FlatDerivesFirst no_derivation ds zs 0 2) (sym e) h) in
    let s = literal_stands no_derivation 0 0 2 (codes "a") refl (literal_derived no_derivation v.0 0 0 2 v.3) in
    omega (arith, s.0)
no_line (suc a) ds syms e l n h = omega (arith, l)

none_derives : (d : FlatTree) → IsFlatDerivation no_derivation d → ⊥
none_derives d h = by_node no_derivation 0 0 2 (λ z. ⊥) (λ a ds n. no_line a ds n.syms (line_syms no_derivation 0 a n.syms n.line) (line_within no_derivation 0 a n.syms n.line) n.count n.trees) d None h

pub rule_is_of_no_use : RuleIsOfNoUse
rule_is_of_no_use (s, k, last, (d, h, stands)) = none_derives d h

pub beginning_is_of_use : BeginningIsOfUse
beginning_is_of_use = (omega arith, inl refl)

pub slot_is_of_no_use : SlotIsOfNoUse
slot_is_of_no_use (within, inl e) = let n : 1 ≡ 0 = e in omega (arith, n)
slot_is_of_no_use (within, inr (k, (d, h, stands))) = none_derives d h

pub no_slot_is_of_no_use : NoSlotIsOfNoUse
no_slot_is_of_no_use h = let n : 2 < 2 = h.0 in omega (arith, n)
