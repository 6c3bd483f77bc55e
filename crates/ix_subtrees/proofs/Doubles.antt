-- Of entries in order some span has two choices exactly where two that follow each other are of one span.
use Rattle.std.proofs.Common.{◌≡◌, ap, sym, subst, ◌∙◌, ◌⊎◌, ◌+◌, ◌≤◌, ◌<◌, ℕ, List, length, arith}
use mathlib.Core.Logic.{inl, inr}
use Rattle.std.specs.List.{Contains}
use Rattle.std.proofs.lemmas.Bool.{cases_lt}
use Rattle.std.proofs.lemmas.List.{get_or_default}
use Rattle.std.proofs.lemmas.List.Elements.{Contains-get_or}
use Rattle.ix_subtrees.specs.declared.entry.Span.{Span}
use Rattle.ix_subtrees.specs.declared.entry.Entry.{Entry}
use Rattle.ix_subtrees.specs.Entries.{entry_for, entry_at, IsSpanBefore, IsBefore, AreInOrder}
use Rattle.ix_subtrees.specs.TwoChoices.{HasTwo}

not_both_before : (a b : Span) → IsSpanBefore a b → IsSpanBefore b a → ⊥
not_both_before a b (inl h) (inl k) = absurd (omega (arith, h, k))
not_both_before a b (inl h) (inr k) = absurd (omega (arith, h, k.0))
not_both_before a b (inr h) (inl k) = absurd (omega (arith, h.0, k))
not_both_before a b (inr (e, inl h)) (inr (f, inl k)) = absurd (omega (arith, h, k))
not_both_before a b (inr (e, inl h)) (inr (f, inr k)) = absurd (omega (arith, h, k.0))
not_both_before a b (inr (e, inr h)) (inr (f, inl k)) = absurd (omega (arith, h.0, k))
not_both_before a b (inr (e, inr h)) (inr (f, inr k)) = absurd (omega (arith, h.1, k.1))

module _ (es : List Entry) (order : AreInOrder es) where
  abbrev pub span_at : ℕ → Span
  span_at i = (entry_at es i).span

  -- what stands between two entries of a span is of it too
  next_same : (p q : ℕ) → p < q → q < length es → span_at p ≡ span_at q → span_at p ≡ span_at (p + 1)
  next_same p q h k same = go (cases_lt (p + 1) q)
    where
      between : p + 1 < q → IsBefore (entry_at es p) (entry_at es (p + 1)) → IsBefore (entry_at es (p + 1)) (entry_at es q) → span_at p ≡ span_at (p + 1)
      between l (inr b) c = b.0
      between l (inl b) (inr c) = same ∙ sym c.0
      between l (inl b) (inl c) = absurd (not_both_before (span_at p) (span_at (p + 1)) b (subst (λ (s : Span). IsSpanBefore (span_at (p + 1)) s) (sym same) c))

      go : (p + 1 < q) ⊎ (q ≤ p + 1) → span_at p ≡ span_at (p + 1)
      go (inl l) = between l (order p (p + 1) (omega arith) (omega (arith, l, k))) (order (p + 1) q l k)
      go (inr l) = let e : q ≡ p + 1 = omega (arith, l, h) in same ∙ ap span_at e

  abbrev pub IsDouble : ℕ → Type 0
  IsDouble i = (i + 1 < length es) × (span_at i ≡ span_at (i + 1))

  pub double_of_two : HasTwo es → (i : ℕ) × IsDouble i
  double_of_two (n, l, r, (j, k, differ, one, other)) = go (cases_lt one.0 other.0)
    where
      at_one : entry_at es one.0 ≡ entry_for n l r j
      at_one = get_or_default es one.0 (entry_for 0 0 0 0) (entry_for n l r j) one.1 ∙ one.2

      at_other : entry_at es other.0 ≡ entry_for n l r k
      at_other = get_or_default es other.0 (entry_for 0 0 0 0) (entry_for n l r k) other.1 ∙ other.2

      same : span_at one.0 ≡ span_at other.0
      same = ap (λ (e : Entry). e.span) at_one ∙ sym (ap (λ (e : Entry). e.span) at_other)

      apart : one.0 ≡ other.0 → ⊥
      apart e = differ (sym (ap (λ (x : Entry). x.choice) at_one) ∙ ap (λ (i : ℕ). (entry_at es i).choice) e ∙ ap (λ (x : Entry). x.choice) at_other)

      turn : other.0 ≤ one.0 → (other.0 < one.0) ⊎ (one.0 ≤ other.0) → (i : ℕ) × IsDouble i
      turn h (inl b) = (other.0, (omega (arith, b, one.1), next_same other.0 one.0 b one.1 (sym same)))
      turn h (inr b) = absurd (apart (omega (arith, h, b)))

      go : (one.0 < other.0) ⊎ (other.0 ≤ one.0) → (i : ℕ) × IsDouble i
      go (inl h) = (one.0, (omega (arith, h, other.1), next_same one.0 other.0 h other.1 same))
      go (inr h) = turn h (cases_lt other.0 one.0)

  pub two_of_double : (i : ℕ) → IsDouble i → HasTwo es
  two_of_double i (h, same) = (
    x.span.number,
    x.span.left,
    x.span.right,
    (
      x.choice,
      y.choice,
      by (order i (i + 1) (omega arith) h),
      Contains-get_or es i (entry_for 0 0 0 0) (omega (arith, h)),
      subst (λ (s : Span). Contains es (record { span = s; choice = y.choice })) (sym same) (Contains-get_or es (i + 1) (entry_for 0 0 0 0) h),
    ),
  )
    where
      x : Entry
      x = entry_at es i

      y : Entry
      y = entry_at es (i + 1)

      by : IsBefore x y → x.choice ≡ y.choice → ⊥
      by (inl b) e = not_both_before x.span y.span b (subst (λ (s : Span). IsSpanBefore s x.span) same (subst (λ (s : Span). IsSpanBefore x.span s) (sym same) b))
      by (inr b) e = absurd (omega (arith, b.1, e))
