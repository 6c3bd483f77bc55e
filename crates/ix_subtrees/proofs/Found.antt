-- The choices of one span.
use Rattle.std.proofs.Common.{◌≡◌, ap, sym, ◌∙◌, ◌+◌, ◌-◌, ◌≤◌, ◌<◌, ℕ, true, false, List, length, arith, get_or, take, drop}
use Rattle.std.specs.Ordering.{is_lt, is_le}
use Rattle.std.specs.List.{Contains}
use Rattle.std.specs.List.Sorted.{IsPartitionPoint}
use Rattle.std.proofs.Math.ListN.{get_or-map}
use Rattle.std.proofs.lemmas.Cmp.{tied_itself}
use Rattle.std.proofs.lemmas.List.{get_or_default, get_or-take, get_or-drop, length-map, length-take-le, length-drop}
use Rattle.std.proofs.lemmas.Map.Keys.{Less-from_sorted}
use Rattle.ix_subtrees.specs.declared.entry.Span.{Span}
use Rattle.ix_subtrees.specs.declared.entry.Entry.{Entry}
use Rattle.ix_subtrees.specs.Orders.{span_cmp, entry_cmp}
use Rattle.ix_subtrees.specs.Entries.{entry_at, entry_for, AreChoices, AreChoicesOf}
use Rattle.ix_subtrees.proofs.Orders.{span_total, same_span, choice_rises}
use Rattle.ix_subtrees.proofs.Points.{equal_between, between_equal, points_rise}

pub made_same : (e : Entry) (n l r k : ℕ) → e.span.number ≡ n → e.span.left ≡ l → e.span.right ≡ r → e.choice ≡ k → e ≡ entry_for n l r k
made_same e n l r k a b c d = λ i. entry_for (a i) (b i) (c i) (d i)

module _ (es : List Entry) (cs : List ℕ) (low high : ℕ) (span : Span) (kept : AreChoices es cs) (inside : low ≤ length es) (within : high ≤ length es) (lower : IsPartitionPoint (λ (e : Entry). is_lt (span_cmp e.span span) ≡ true) (λ (e : Entry). is_lt (span_cmp e.span span) ≡ false) es low) (upper : IsPartitionPoint (λ (e : Entry). is_le (span_cmp e.span span) ≡ true) (λ (e : Entry). is_le (span_cmp e.span span) ≡ false) es high) where
  pub ordered : low ≤ high
  ordered = points_rise span_total (λ (e : Entry). e.span) es span low high (entry_for 0 0 0 0) inside within lower upper

  long : length cs ≡ length es
  long = ap length kept.same ∙ length-map es (λ (e : Entry). e.choice)

  count : length (take (high - low) (drop low cs)) ≡ high - low
  count = length-take-le (high - low) (drop low cs) (omega (arith, length-drop low cs, ordered, within, long))

  choice_at : (i : ℕ) → i < high - low → get_or (take (high - low) (drop low cs)) i 0 ≡ (entry_at es (low + i)).choice
  choice_at i h = get_or-take (high - low) (drop low cs) i 0 h ∙ get_or-drop low cs i 0 ∙ ap (λ (z : List ℕ). get_or z (low + i) 0) kept.same ∙ get_or-map (λ (e : Entry). e.choice) es (low + i) (entry_for 0 0 0 0)

  span_is : (i : ℕ) → low ≤ i → i < high → (entry_at es i).span ≡ span
  span_is i h k = same_span (entry_at es i).span span (equal_between span_total (λ (e : Entry). e.span) es span low high (entry_for 0 0 0 0) inside within lower upper i h k)

  pub choices_found : AreChoicesOf es span.number span.left span.right (take (high - low) (drop low cs))
  choices_found = record { members = λ k. (there k, back k); rising = rises }
    where
      wanted : ℕ → Entry
      wanted k = entry_for span.number span.left span.right k

      same_entry_for : (e : Entry) (k : ℕ) → e.span ≡ span → e.choice ≡ k → e ≡ wanted k
      same_entry_for e k s c = λ i. entry_for (s i).number (s i).left (s i).right (c i)

      there : (k : ℕ) → Contains (take (high - low) (drop low cs)) k → Contains es (wanted k)
      there k h =
          let b : h.0 < high - low = omega (arith, h.1, count) in
          let c : (entry_at es (low + h.0)).choice ≡ k = sym (choice_at h.0 b) ∙ get_or_default (take (high - low) (drop low cs)) h.0 0 k h.1 ∙ h.2 in
          let o : low + h.0 < length es = omega (arith, b, within, ordered) in
          let s = span_is (low + h.0) (omega arith) (omega (arith, b, ordered)) in
          (low + h.0, o, get_or_default es (low + h.0) (wanted k) (entry_for 0 0 0 0) o ∙ same_entry_for (entry_at es (low + h.0)) k s c)

      back : (k : ℕ) → Contains es (wanted k) → Contains (take (high - low) (drop low cs)) k
      back k h =
          let e : entry_at es h.0 ≡ wanted k = get_or_default es h.0 (entry_for 0 0 0 0) (wanted k) h.1 ∙ h.2 in
          let tied = ap (λ (z : Entry). span_cmp z.span span) e ∙ tied_itself span_total span in
          let between = between_equal span_total (λ (e : Entry). e.span) es span low high (entry_for 0 0 0 0) inside within lower upper h.0 h.1 tied in
          let i : h.0 - low < high - low = omega (arith, between.0, between.1) in
          let m : low + (h.0 - low) ≡ h.0 = omega (arith, between.0) in
          let q : h.0 - low < length (take (high - low) (drop low cs)) = omega (arith, i, count) in
          (h.0 - low, q, get_or_default (take (high - low) (drop low cs)) (h.0 - low) k 0 q ∙ choice_at (h.0 - low) i ∙ ap (λ (z : ℕ). (entry_at es z).choice) m ∙ ap (λ (z : Entry). z.choice) e)

      rises : (i j : ℕ) → i < j → j < length (take (high - low) (drop low cs)) → get_or (take (high - low) (drop low cs)) i 0 < get_or (take (high - low) (drop low cs)) j 0
      rises i j h k =
          let b : j < high - low = omega (arith, k, count) in
          let a : i < high - low = omega (arith, h, b) in
          let e = span_is (low + i) (omega arith) (omega (arith, a, ordered)) in
          let f = span_is (low + j) (omega arith) (omega (arith, b, ordered)) in
          let q : low + j < length es = omega (arith, b, within, ordered) in
          let x = choice_rises (entry_at es (low + i)) (entry_at es (low + j)) (e ∙ sym f) (Less-from_sorted entry_cmp es (low + i) (low + j) (entry_for 0 0 0 0) kept.order (omega (arith, h)) q) in
          omega (arith, x, choice_at i a, choice_at j b)
