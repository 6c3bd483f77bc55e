-- The worked examples of spans, their ways and their heights.
use Rattle.std.proofs.Common.{rules, ◌≡◌, refl, ap, sym, subst, ◌∙◌, ◌+◌, ◌≤◌, ◌<◌, ℕ, zero, suc, max, false, true, true≢false, [], ◌∷◌, Option, Some, None, codes, arith, get_or}
use mathlib.Core.Logic.{inl, inr}
use Rattle.ix_model.specs.declared.rules.Kind.{Kind}
use Rattle.ix_model.specs.declared.rules.Kind.TheVariants as kind
use Rattle.ix_model.specs.declared.rules.Sym.{Sym}
use Rattle.ix_model.specs.declared.rules.Sym.TheVariants as sy
use Rattle.ix_model.specs.Expansion.Parts.{Parts}
use Rattle.ix_model.specs.Expansion.Planned.{IsPlanned}
use Rattle.ix_model.specs.Expansion.Numbered.{kind_at}
use Rattle.ix_model.specs.Expansion.Slots.{sym_after}
use Rattle.ix_model.specs.Expansion.FlatTrees.{FlatTree, flat_text, flat_insertion, flat_node}
use Rattle.ix_model.specs.Expansion.FlatDerives.{FlatDerives, IsFlatDerivation}
use Rattle.ix_model.specs.Expansion.FlatHeights.{raised, flat_height, flat_heights}
use Rattle.ix_model.specs.Closure.Useful.{sub_at, Useful}
use Rattle.ix_model.proofs.SlotReaders.{next_reads}
use Rattle.ix_examples.specs.SmallPlans.{call, literal, alone, a_by}
use Rattle.ix_examples.proofs.SmallClosures.{last_a, part_a}
use Rattle.ix_examples.proofs.SmallPlans.{planned_a}
use Rattle.ix_height.specs.declared.span.Span.{Span}
use Rattle.ix_height.specs.Spans.{of_slot, of_rule, is_raised}
use Rattle.ix_height.specs.Heights.{HasHeight}
use Rattle.ix_height.specs.Ways.{Before, Child, Way, empty, step, whole}
use Rattle.ix_height.specs.Graph.{At, PartAt, IsEdgeOf}
use Rattle.ix_height.specs.Low.{no_edge, raise, Low, by_edge, LowPart, no_part, part}
use Rattle.ix_height.specs.Examples.{edge, by_letter, letter_spans, letter_edges, by_cycle, cycle_edges, cycle_raised}
use Rattle.ix_height.specs.Laws.{SlotIsOfUse, RuleIsOfUse, FirstSlotIsOfNoUse, ShortRuleIsOfNoUse, LetterIsAWay, WholeIsAWay, CallIsAWay, CallNeedsItsRule, RuleHasItsNumber, SlotHasAnother, LetterIsAGraph, EdgeIsMissing, RuleIsNotRaised, OnceIsLow, AroundIsLow, RuleIsNotLower, OnceIsLeast, AroundIsNotLeast, LeastIsNotLeftOut, OnceHasOne, AroundHasTwo, SlotHasNone, RuleHasMore, OneIsTheLeast, TwoIsNotTheLeast, ZeroIsNoHeight, RuleIsAnswered, NoUseIsNoAnswer, AnswerIsNotLeftOut, NoUseIsNotAnswered, RuleIsFound, SlotIsNotFound}
use Rattle.ix_height.proofs.Ascent.{useful_part}

planned_cycle : IsPlanned by_cycle
planned_cycle = search rules

-- ---- spans that are of use

derived_letter : IsFlatDerivation by_letter (a_by 0)
derived_letter = (None, refl, _, (_, _, refl, refl, refl), refl, (0, _, refl, refl, (refl, refl, (0, true, _, refl, refl, (refl, omega arith, refl)))))

useful_letter : Useful by_letter (sub_at 1 0 0 1)
useful_letter = (a_by 0, derived_letter, inr (inl (1, refl, refl)))

pub slot_is_of_use : SlotIsOfUse
slot_is_of_use = (0, useful_letter)

pub rule_is_of_use : RuleIsOfUse
rule_is_of_use = (1, 0, (0, _, refl, (_, _, refl, refl, refl)), useful_letter)

part_of : (s l k p : ℕ) → Useful by_letter (sub_at s l k p) → (s ≡ 1) × (l ≡ 0) × (k ≡ 0) × (p ≡ 1)
part_of s l k p u = part_a s l k p (useful_part by_letter planned_a s l k p u)

pub first_slot_is_of_no_use : FirstSlotIsOfNoUse
first_slot_is_of_no_use u = omega (arith, (part_of 0 0 u.0 0 u.1).0)

pub short_rule_is_of_no_use : ShortRuleIsOfNoUse
short_rule_is_of_no_use u = omega (arith, (part_of u.0 0 u.1 0 u.3).3)

-- ---- ways

pub letter_is_a_way : LetterIsAWay
letter_is_a_way = step 0 1 0 0 1 (literal 0) None None useful_letter (0, 0, 0, _, refl, refl, (_, _, refl, refl, refl), refl) (inl ((0, (0, _, refl, (_, _, refl, refl, refl))), refl, refl)) refl

pub whole_is_a_way : WholeIsAWay
whole_is_a_way = whole 0 1 0 0 1 useful_letter (0, _, refl, (_, _, refl, refl, refl))

once : IsFlatDerivation by_cycle (a_by 1)
once = (None, refl, _, (_, _, refl, refl, refl), refl, (0, _, refl, refl, (refl, refl, (0, true, _, refl, refl, (refl, omega arith, refl)))))

around : IsFlatDerivation by_cycle (flat_node 0 0 (alone (a_by 1)))
around = (None, refl, _, (_, _, refl, refl, refl), refl, (0, _, refl, refl, once))

pub call_is_a_way : CallIsAWay
call_is_a_way = step 0 1 0 0 1 (call 0) None (Some (of_rule 0 0 1)) (flat_node 0 0 (alone (a_by 1)), around, inr (inl (1, refl, refl))) (0, 0, 0, _, refl, refl, (_, _, refl, refl, refl), refl) (inl ((0, (0, _, refl, (_, _, refl, refl, refl))), refl, refl)) refl

pub call_needs_its_rule : CallNeedsItsRule
call_needs_its_rule way = go (of_slot 1 0 1) None None refl refl way
  where
    go : (t : Span) (one two : Option Span) → t ≡ of_slot 1 0 1 → two ≡ None → Way by_cycle t one two → ⊥
    go t one two e f (empty q s l u first last) = omega (arith, ap (λ (z : Span). z.left) e, ap (λ (z : Span). z.right) e)
    go t one two e f (step v s l k p x o w u n before child) =
        let r = next_reads by_cycle planned_cycle v s x n in
        let s_is : s ≡ 1 = cc (ap (λ (z : Span). z.owner) e) in
        let v_is : v ≡ 0 = omega (arith, s_is, r.2) in
        let x_is : Some (call 0) ≡ Some x = subst (λ (z : ℕ). sym_after by_cycle z ≡ Some x) v_is r.1 in
        let here : call 0 ≡ x = cc x_is in
        let needs : w ≡ Some (of_rule 0 k p) = subst (λ (z : Sym). Child z k p w) (sym here) child in
        absurd (cc (needs, f))
    go t one two e f (whole q s l k p u last) = absurd (cc (ap (λ (z : Span). z.owner) e))

-- ---- the graph

pub rule_has_its_number : RuleHasItsNumber
rule_has_its_number = (omega arith, refl)

pub slot_has_another : SlotHasAnother
slot_has_another at = absurd (cc (ap (λ (z : Span). z.owner) at.1))

-- the edges of the slot and of the rule, by numbers that are these
edge_of_slot : (s l p : ℕ) (one two : Option Span) → s ≡ 1 → l ≡ 0 → p ≡ 1 → one ≡ None → two ≡ None → IsEdgeOf letter_spans (edge 0 None None) (of_slot s l p) one two
edge_of_slot s l p one two a b c d e = record {
  to = (omega arith, cc (a, b, c));
  one_at = subst (λ (z : Option Span). PartAt letter_spans None z) (sym d) tt;
  two_at = subst (λ (z : Option Span). PartAt letter_spans None z) (sym e) tt;
}

edge_of_rule : (q s l p : ℕ) → q ≡ 0 → s ≡ 1 → l ≡ 0 → p ≡ 1 → IsEdgeOf letter_spans (edge 1 (Some 0) None) (of_rule q l p) (Some (of_slot s l p)) None
edge_of_rule q s l p a b c d = record { to = (omega arith, cc (a, c, d)); one_at = (omega arith, cc (b, c, d)); two_at = tt }

all_ways : (t : Span) (one two : Option Span) → Way by_letter t one two → (n : ℕ) × (n < 2) × IsEdgeOf letter_spans (get_or letter_edges n no_edge) t one two
all_ways t one two (empty q s l u first last) = let h = part_of s l l l u in absurd (omega (arith, h.1, h.3))
all_ways t one two (step v s l k p x o w u n before child) = (0, omega arith, edge_of_slot s l p o w h.0 h.1 h.3 (none before) no_child)
  where
    h : (s ≡ 1) × (l ≡ 0) × (k ≡ 0) × (p ≡ 1)
    h = part_of s l k p u

    v_is : v ≡ 0
    v_is = omega (arith, h.0, (next_reads by_letter planned_a v s x n).2)

    x_is : Some (literal 0) ≡ Some x
    x_is = subst (λ (z : ℕ). sym_after by_letter z ≡ Some x) v_is (next_reads by_letter planned_a v s x n).1

    no_child : w ≡ None
    no_child = let here : literal 0 ≡ x = cc x_is in subst (λ (z : Sym). Child z k p w) (sym here) child

    none : Before by_letter v l k o → o ≡ None
    none (inl b) = b.2
    none (inr b) = absurd (omega (arith, v_is, (part_of v l b.0 k b.1).0))
all_ways t one two (whole q s l k p u last) = let h = part_of s l k p u in (1, omega arith, edge_of_rule q s l p (last_a (codes "a") s q last).1 h.0 h.1 h.3)

pub letter_is_a_graph : LetterIsAGraph
letter_is_a_graph = record { distinct = differ; up = ups; sound = ways; complete = all_ways }
  where
    differ : (v w : ℕ) → v < 2 → w < 2 → get_or letter_spans v (of_slot 0 0 0) ≡ get_or letter_spans w (of_slot 0 0 0) → v ≡ w
    differ zero zero h k e = refl
    differ zero (suc zero) h k e = absurd (cc (ap (λ (z : Span). z.owner) e))
    differ (suc zero) zero h k e = absurd (cc (ap (λ (z : Span). z.owner) e))
    differ (suc zero) (suc zero) h k e = refl
    differ (suc (suc v)) w h k e = absurd (omega (arith, h))
    differ v (suc (suc w)) h k e = absurd (omega (arith, k))

    ups : (v : ℕ) (t : Span) → At letter_spans v t → get_or (false ∷ true ∷ []) v false ≡ is_raised by_letter t
    ups zero t at = ap (is_raised by_letter) at.1
    ups (suc zero) t at = ap (is_raised by_letter) at.1
    ups (suc (suc v)) t at = absurd (omega (arith, at.0))

    ways : (n : ℕ) → n < 2 → (t : Span) × (one two : Option Span) × Way by_letter t one two × IsEdgeOf letter_spans (get_or letter_edges n no_edge) t one two
    ways zero h = (of_slot 1 0 1, None, None, letter_is_a_way, edge_of_slot 1 0 1 None None refl refl refl refl refl)
    ways (suc zero) h = (of_rule 0 0 1, Some (of_slot 1 0 1), None, whole_is_a_way, edge_of_rule 0 1 0 1 refl refl refl refl)
    ways (suc (suc n)) h = absurd (omega (arith, h))

pub edge_is_missing : EdgeIsMissing
edge_is_missing g = go found.0 found.1 found.2.to
  where
    found : (n : ℕ) × (n < 1) × IsEdgeOf letter_spans (get_or (edge 0 None None ∷ []) n no_edge) (of_rule 0 0 1) (Some (of_slot 1 0 1)) None
    found = g.complete (of_rule 0 0 1) (Some (of_slot 1 0 1)) None whole_is_a_way

    go : (n : ℕ) → n < 1 → At letter_spans (get_or (edge 0 None None ∷ []) n no_edge).to (of_rule 0 0 1) → ⊥
    go zero h at = absurd (cc (ap (λ (z : Span). z.owner) at.1))
    go (suc n) h at = omega (arith, h)

pub rule_is_not_raised : RuleIsNotRaised
rule_is_not_raised g = true≢false (sym (g.up 1 (of_rule 0 0 1) rule_has_its_number))

-- ---- heights by the graph

letter_is_low : Low cycle_edges cycle_raised 1 0
letter_is_low = by_edge 1 0 1 0 0 (omega arith) refl (no_part None 0 refl refl) (no_part None 0 refl refl) refl

pub once_is_low : OnceIsLow
once_is_low = by_edge 2 1 3 0 0 (omega arith) refl (part (Some 1) 1 0 refl letter_is_low) (no_part None 0 refl refl) refl

call_is_low : Low cycle_edges cycle_raised 0 1
call_is_low = by_edge 0 1 0 0 1 (omega arith) refl (no_part None 0 refl refl) (part (Some 2) 2 1 refl once_is_low) refl

pub around_is_low : AroundIsLow
around_is_low = by_edge 2 2 2 1 0 (omega arith) refl (part (Some 0) 0 1 refl call_is_low) (no_part None 0 refl refl) refl

rule_low : (v h : ℕ) → v ≡ 2 → Low cycle_edges cycle_raised v h → 1 ≤ h
rule_low v h is (by_edge _ _ n h1 h2 i to x y e) =
    let up : h ≡ max h1 h2 + 1 = e ∙ ap (λ (z : ℕ). raise (get_or cycle_raised z false) (max h1 h2)) is in
    omega (arith, up)

pub rule_is_not_lower : RuleIsNotLower
rule_is_not_lower low = omega (arith, rule_low 2 0 refl low)

pub once_is_least : OnceIsLeast
once_is_least = record { reached = reached; least = least_of }
  where
    low_as : (v h k : ℕ) → Some h ≡ Some k → Low cycle_edges cycle_raised v h → Low cycle_edges cycle_raised v k
    low_as v h k e low = let q : h ≡ k = cc e in subst (λ (z : ℕ). Low cycle_edges cycle_raised v z) q low

    reached : (v h : ℕ) → get_or (Some 1 ∷ Some 0 ∷ Some 1 ∷ []) v None ≡ Some h → Low cycle_edges cycle_raised v h
    reached zero h e = low_as 0 1 h e call_is_low
    reached (suc zero) h e = low_as 1 0 h e letter_is_low
    reached (suc (suc zero)) h e = low_as 2 1 h e once_is_low
    reached (suc (suc (suc v))) h e = absurd (cc e)

    child_low : (o : Option ℕ) (h : ℕ) → o ≡ Some 2 → LowPart cycle_edges cycle_raised o h → 1 ≤ h
    child_low o h is (no_part _ _ e z) = absurd (cc (is, e))
    child_low o h is (part _ v _ e low) = let q : v ≡ 2 = cc (is, e) in rule_low v h q low

    least_of : (v m : ℕ) → Low cycle_edges cycle_raised v m → (h : ℕ) × (get_or (Some 1 ∷ Some 0 ∷ Some 1 ∷ []) v None ≡ Some h) × (h ≤ m)
    least_of v m (by_edge _ _ n h1 h2 i to x y e) = go n i to y
      where
        at : (w h : ℕ) → w ≡ v → get_or (Some 1 ∷ Some 0 ∷ Some 1 ∷ []) w None ≡ Some h → get_or (Some 1 ∷ Some 0 ∷ Some 1 ∷ []) v None ≡ Some h
        at w h q a = subst (λ (z : ℕ). get_or (Some 1 ∷ Some 0 ∷ Some 1 ∷ []) z None ≡ Some h) q a

        high : 2 ≡ v → 1 ≤ m
        high q = let up : m ≡ max h1 h2 + 1 = e ∙ ap (λ (z : ℕ). raise (get_or cycle_raised z false) (max h1 h2)) (sym q) in omega (arith, up)

        go : (n : ℕ) → n < 4 → (get_or cycle_edges n no_edge).to ≡ v → LowPart cycle_edges cycle_raised (get_or cycle_edges n no_edge).two h2 → (h : ℕ) × (get_or (Some 1 ∷ Some 0 ∷ Some 1 ∷ []) v None ≡ Some h) × (h ≤ m)
        go zero i to y =
            let high : m ≡ max h1 h2 = e ∙ ap (λ (z : ℕ). raise (get_or cycle_raised z false) (max h1 h2)) (sym to) in
            (1, at 0 1 to refl, omega (arith, high, child_low (Some 2) h2 refl y))
        go (suc zero) i to y = (0, at 1 0 to refl, omega arith)
        go (suc (suc zero)) i to y = (1, at 2 1 to refl, high to)
        go (suc (suc (suc zero))) i to y = (1, at 2 1 to refl, high to)
        go (suc (suc (suc (suc n)))) i to y = absurd (omega (arith, i))

pub around_is_not_least : AroundIsNotLeast
around_is_not_least a = let x = a.least 2 1 once_is_low in let q : 2 ≡ x.0 = cc x.1 in omega (arith, q, x.2)

pub least_is_not_left_out : LeastIsNotLeftOut
least_is_not_left_out a = let x = a.least 0 1 call_is_low in absurd (cc x.1)

-- ---- heights by the trees

pub once_has_one : OnceHasOne
once_has_one = (a_by 1, once, refl)

pub around_has_two : AroundHasTwo
around_has_two = (flat_node 0 0 (alone (a_by 1)), around, refl)

pub slot_has_none : SlotHasNone
slot_has_none = (alone (flat_text 0 1), (0, 1, _, refl, (_, _, refl, refl, refl), (0, _, refl, refl, (refl, refl, (0, true, _, refl, refl, (refl, omega arith, refl))))), refl)

-- a tree of a named rule is as high as one at least
one_at_least : (plan : Parts) (l r m : ℕ) → kind_at plan.rules 0 ≡ kind.Named → HasHeight plan (of_rule 0 l r) m → 1 ≤ m
one_at_least plan l r m named h = go h.0 h.1 h.2
  where
    go : (d : FlatTree) → FlatDerives plan d (sy.Rule 0 None) l r → flat_height plan.rules d ≡ m → 1 ≤ m
    go (flat_text a b) t e = absurd (cc t.2.3)
    go flat_insertion t e = absurd (cc t.1)
    go (flat_node q a ds) t e =
        let q_is : q ≡ 0 = cc t.1 in
        let up : flat_heights plan.rules ds + 1 ≡ m = subst (λ (z : Kind). raised z (flat_heights plan.rules ds) ≡ m) named (subst (λ (z : ℕ). raised (kind_at plan.rules z) (flat_heights plan.rules ds) ≡ m) q_is e) in
        omega (arith, up)

pub rule_has_more : RuleHasMore
rule_has_more h = omega (arith, one_at_least by_cycle 0 1 0 refl h)

pub one_is_the_least : OneIsTheLeast
one_is_the_least = record { it = once_has_one; least = λ m h. one_at_least by_cycle 0 1 m refl h }

pub two_is_not_the_least : TwoIsNotTheLeast
two_is_not_the_least l = omega (arith, l.least 1 once_has_one)

pub zero_is_no_height : ZeroIsNoHeight
zero_is_no_height l = rule_has_more l.it

-- ---- answers

pub rule_is_answered : RuleIsAnswered
rule_is_answered = record { some = (rule_is_of_use, record { it = (a_by 0, derived_letter, refl); least = λ m h. one_at_least by_letter 0 1 m refl h }); none = λ e u. absurd (cc e) }

pub no_use_is_no_answer : NoUseIsNoAnswer
no_use_is_no_answer = record { some = tt; none = λ e u. short_rule_is_of_no_use u }

pub answer_is_not_left_out : AnswerIsNotLeftOut
answer_is_not_left_out a = a.none refl rule_is_of_use

pub no_use_is_not_answered : NoUseIsNotAnswered
no_use_is_not_answered a = short_rule_is_of_no_use a.some.0

pub rule_is_found : RuleIsFound
rule_is_found = refl

pub slot_is_not_found : SlotIsNotFound
slot_is_not_found = refl
