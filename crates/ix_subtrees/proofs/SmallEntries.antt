-- Small lists of entries: what the worked examples speak of.
use Rattle.std.proofs.Common.{◌≡◌, refl, sym, ◌∙◌, ◌+◌, ℕ, zero, suc, List, [], ◌∷◌, arith}
use mathlib.Core.Logic.{inl, inr}
use Rattle.std.specs.List.{Contains}
use Rattle.ix_model.specs.Closure.Useful.{sub_at}
use Rattle.ix_examples.proofs.SmallClosures.{part_1}
use Rattle.ix_subtrees.specs.declared.entry.Entry.{Entry}
use Rattle.ix_subtrees.specs.Entries.{entry_for, IsBefore}
use Rattle.ix_subtrees.specs.Laws.{PartIsLeftOut, PivotsAreInOrder, TwiceIsNotInOrder, ChoiceIsFound, ChoiceIsNotMissed, TwoChoicesOfOneSpan, OneChoiceOfEachSpan, SomeSpanHasTwo, NoSpanHasTwo}
use Rattle.ix_subtrees.specs.TwoChoices.{HasTwoChoices}
use Rattle.ix_subtrees.proofs.Lists.{each_of, nothing_in}

pub part_is_left_out : PartIsLeftOut
part_is_left_out all = let c = (all (sub_at 1 0 0 1)).1 part_1 in absurd (omega (arith, c.1))

pub pivots_are_in_order : PivotsAreInOrder
pivots_are_in_order i zero h k = absurd (omega (arith, h))
pivots_are_in_order zero (suc zero) h k = inr (refl, omega arith)
pivots_are_in_order (suc i) (suc zero) h k = absurd (omega (arith, h))
pivots_are_in_order i (suc (suc j)) h k = absurd (omega (arith, k))

-- no entry comes before itself
not_before_itself : (e : Entry) → IsBefore e e → ⊥
not_before_itself e (inl (inl h)) = absurd (omega (arith, h))
not_before_itself e (inl (inr (p, inl h))) = absurd (omega (arith, h))
not_before_itself e (inl (inr (p, inr (q, h)))) = absurd (omega (arith, h))
not_before_itself e (inr (p, h)) = absurd (omega (arith, h))

pub twice_is_not_in_order : TwiceIsNotInOrder
twice_is_not_in_order order = not_before_itself (entry_for 1 0 1 0) (order 0 1 (omega arith) (omega arith))

pub choice_is_found : ChoiceIsFound
choice_is_found = record {
  members = λ k. (
    each_of (λ (c : ℕ). Contains (entry_for 1 0 1 0 ∷ []) (entry_for 1 0 1 c)) (0 ∷ []) k ((0, omega arith, refl), tt),
    each_of (λ (e : Entry). Contains (0 ∷ []) e.choice) (entry_for 1 0 1 0 ∷ []) (entry_for 1 0 1 k) ((0, omega arith, refl), tt),
  );
  rising = λ i j h k. absurd (omega (arith, h, k));
}

pub choice_is_not_missed : ChoiceIsNotMissed
choice_is_not_missed found = nothing_in 0 ((found.members 0).1 (0, omega arith, refl))

-- where each choice is the same there are not two
pub not_two : (es : List Entry) (n l r c : ℕ) → ((k : ℕ) → Contains es (entry_for n l r k) → k ≡ c) → HasTwoChoices es n l r → ⊥
not_two es n l r c same t = t.2 (same t.0 t.3 ∙ sym (same t.1 t.4))

pub two_of : (n l r : ℕ) → HasTwoChoices (entry_for n l r 0 ∷ entry_for n l r 1 ∷ []) n l r
two_of n l r = (0, 1, λ e. absurd (omega (arith, e)), (0, omega arith, refl), (1, omega arith, refl))

pub two_choices_of_one_span : TwoChoicesOfOneSpan
two_choices_of_one_span = two_of 0 0 1

abbrev one_of_each : List Entry
one_of_each = entry_for 0 0 1 0 ∷ entry_for 0 0 2 1 ∷ []

-- the choice is one less than the right end
choice_of_each : (e : Entry) → Contains one_of_each e → e.choice + 1 ≡ e.span.right
choice_of_each e c = each_of (λ (e : Entry). e.choice + 1 ≡ e.span.right) one_of_each e (refl, (refl, tt)) c

pub one_choice_of_each_span : OneChoiceOfEachSpan
one_choice_of_each_span = not_two one_of_each 0 0 1 0 (λ k c. let e = choice_of_each (entry_for 0 0 1 k) c in omega (arith, e))

pub some_span_has_two : SomeSpanHasTwo
some_span_has_two = (0, 0, 1, two_choices_of_one_span)

pub no_span_has_two : NoSpanHasTwo
no_span_has_two (n, l, r, (j, k, differ, one, other)) =
    let e = choice_of_each (entry_for n l r j) one in
    let f = choice_of_each (entry_for n l r k) other in
    differ (omega (arith, e, f))
