-- Which subtrees of the closure of S: S, "a"; . on any number of `a` are useful.
use Rattle.std.proofs.Common.{◌≡◌, ◌≢◌, refl, ap, sym, subst, ◌∙◌, ◌⊎◌, ◌+◌, ◌-◌, ◌^◌, ◌≤◌, ◌<◌, ℕ, zero, suc, length, replicate, None, arith}
use mathlib.Core.Logic.{inl, inr}
use Rattle.std.specs.List.{Contains}
use Rattle.std.proofs.lemmas.Bool.{cases_lt}
use Rattle.std.proofs.lemmas.List.{length-replicate}
use Rattle.ix_model.specs.declared.sub.Sub.{Sub}
use Rattle.ix_model.specs.Closure.Closed.{Part}
use Rattle.ix_model.specs.Closure.Useful.{sub_at, Useful}
use Rattle.ix_closure_laws.specs.Reached.{RuleReached, root, as_child, SubReached, as_last, as_prefix}
use Rattle.ix_examples.specs.SmallPlans.{literal}
use Rattle.ix_closure_laws.proofs.ClosedWithin.{part_within}
use Rattle.ix_closure_laws.proofs.Frames.{useful_of}
use Rattle.ix_closure_laws.proofs.Reaching.{reached_part, useful_reached}
use Rattle.ix_subtrees.specs.Examples.{left_recursive_subs}
use Rattle.ix_examples.specs.TestPlans.{left_recursive}
use Rattle.ix_subtrees.specs.Laws.{LeftRecursiveIsUseful}
use Rattle.ix_subtrees.proofs.LeftRecursion.{planned_left, IsNext, next_left, last_left, IsOfLeftRecursion, part_left, next_0, next_1, last_2, last_3, empty_part, part_up_to, letter_part, end_at, parts_left}
use Rattle.ix_subtrees.proofs.SmallSets.{same_sub}

module _ (n : ℕ) (small : n < 2 ^ 32) where
  -- ---- from the end of the text back, S is reached up to each position

  letter_reached : (p : ℕ) → p < n → RuleReached (left_recursive n) 0 0 (p + 1) → SubReached (left_recursive n) 2 0 p (p + 1)
  letter_reached p h r = as_last 0 2 0 p (p + 1) r (last_2 n small) (letter_part n small p h (end_at n small p (omega (arith, h))))

  up_to_reached : (p : ℕ) → p < n → RuleReached (left_recursive n) 0 0 (p + 1) → SubReached (left_recursive n) 1 0 0 p
  up_to_reached p h r = as_prefix 1 2 0 0 p (p + 1) (literal 0) (letter_reached p h r) (next_1 n small) (part_up_to n small p (end_at n small p (omega (arith, h))))

  rule_reached : (d p : ℕ) → p + d ≡ n → RuleReached (left_recursive n) 0 0 p
  rule_reached zero p e = subst (RuleReached (left_recursive n) 0 0) {x = length (replicate n 97)} {y = p} (omega (arith, length-replicate {A = ℕ} n 97, e)) root
  rule_reached (suc d) p e = as_child 0 1 0 0 p 0 None (up_to_reached p (omega (arith, e)) (rule_reached d (p + 1) (omega (arith, e)))) (next_0 n small)

  reached_up_to : (p : ℕ) → p ≤ n → RuleReached (left_recursive n) 0 0 p
  reached_up_to p h = rule_reached (n - p) p (omega (arith, h))

  empty_reached : SubReached (left_recursive n) 3 0 0 0
  empty_reached = as_last 0 3 0 0 0 (reached_up_to 0 (omega arith)) (last_3 n small) (empty_part n small)

  -- ---- but not the S up to the end

  ends_within : (k r : ℕ) → SubReached (left_recursive n) 2 0 k r → k < n
  ends_within k r h = go (part_left n small 2 0 k r part)
    where
      part : Part (left_recursive n) 2 0 k r
      part = reached_part (left_recursive n) (planned_left n small) 2 0 k r h

      within : r ≤ n
      within = omega (arith, (part_within (left_recursive n) (planned_left n small) 2 0 k r part).3, length-replicate {A = ℕ} n 97)

      go : IsOfLeftRecursion n small 2 0 k r → k < n
      go (z, inl t) = absurd (omega (arith, t.0))
      go (z, inr (inl t)) = absurd (omega (arith, t.0))
      go (z, inr (inr t)) = omega (arith, within, t.1)

  -- what is reached of slot 1 ends before the end of the text
  up_to_within : (s l k r : ℕ) → SubReached (left_recursive n) s l k r → s ≡ 1 → r < n
  up_to_within s l k r (as_last rule slot left pivot right h last part) e = absurd (not_last (last_left n small slot rule last))
    where
      not_last : (slot ≡ 2) ⊎ (slot ≡ 3) → ⊥
      not_last (inl f) = absurd (omega (arith, e, f))
      not_last (inr f) = absurd (omega (arith, e, f))
  up_to_within s l k r (as_prefix slot after left first pivot right x h next part) e = go (next_left n small slot after x next)
    where
      at_start : IsOfLeftRecursion n small after left pivot right
      at_start = part_left n small after left pivot right (reached_part (left_recursive n) (planned_left n small) after left pivot right h)

      go : IsNext n small slot after x → pivot < n
      go (inl f) = absurd (omega (arith, e, f.0))
      go (inr f) = ends_within pivot right (subst (λ (z : ℕ). SubReached (left_recursive n) z 0 pivot right) f.1 (subst (λ (z : ℕ). SubReached (left_recursive n) after z pivot right) at_start.0 h))

pub useful_left : LeftRecursiveIsUseful
useful_left n small sub = (λ u. (listed u, not_last u), λ h. useful_of (left_recursive n) (planned_left n small) sub.slot sub.left sub.pivot sub.right (reached h.0 h.1))
  where
    reached_by : Useful (left_recursive n) sub → SubReached (left_recursive n) sub.slot sub.left sub.pivot sub.right
    reached_by u = useful_reached (left_recursive n) (planned_left n small) sub u

    listed : Useful (left_recursive n) sub → Contains (left_recursive_subs n) sub
    listed u = (parts_left n small sub).1 (reached_part (left_recursive n) (planned_left n small) sub.slot sub.left sub.pivot sub.right (reached_by u))

    not_last : Useful (left_recursive n) sub → sub ≢ sub_at 1 0 0 n
    not_last u e =
        let below = up_to_within n small sub.slot sub.left sub.pivot sub.right (reached_by u) (ap (λ (z : Sub). z.slot) e) in
        absurd (omega (arith, below, ap (λ (z : Sub). z.right) e))

    by : (x : Sub) → SubReached (left_recursive n) x.slot x.left x.pivot x.right → x ≡ sub → SubReached (left_recursive n) sub.slot sub.left sub.pivot sub.right
    by x r e = subst (λ (z : Sub). SubReached (left_recursive n) z.slot z.left z.pivot z.right) e r

    reached : Contains (left_recursive_subs n) sub → sub ≢ sub_at 1 0 0 n → SubReached (left_recursive n) sub.slot sub.left sub.pivot sub.right
    reached c other = go (part_left n small sub.slot sub.left sub.pivot sub.right part)
      where
        part : Part (left_recursive n) sub.slot sub.left sub.pivot sub.right
        part = (parts_left n small sub).0 c

        within : sub.right ≤ n
        within = omega (arith, (part_within (left_recursive n) (planned_left n small) sub.slot sub.left sub.pivot sub.right part).3, length-replicate {A = ℕ} n 97)

        up_to : (sub.right < n) ⊎ (n ≤ sub.right) → sub_at 1 0 0 sub.right ≡ sub → SubReached (left_recursive n) sub.slot sub.left sub.pivot sub.right
        up_to (inl h) e = by (sub_at 1 0 0 sub.right) (up_to_reached n small sub.right h (reached_up_to n small (sub.right + 1) (omega (arith, h)))) e
        up_to (inr h) e = absurd (other (sym e ∙ ap (sub_at 1 0 0) (omega (arith, h, within))))

        go : IsOfLeftRecursion n small sub.slot sub.left sub.pivot sub.right → SubReached (left_recursive n) sub.slot sub.left sub.pivot sub.right
        go (z, inl t) = by (sub_at 3 0 0 0) (empty_reached n small) (sym (same_sub sub.slot sub.left sub.pivot sub.right 3 0 0 0 t.0 z t.1 t.2))
        go (z, inr (inl t)) = up_to (cases_lt sub.right n) (sym (same_sub sub.slot sub.left sub.pivot sub.right 1 0 0 sub.right t.0 z t.1 refl))
        go (z, inr (inr t)) =
            by (sub_at 2 0 sub.pivot (sub.pivot + 1)) (letter_reached n small sub.pivot (omega (arith, within, t.1)) (reached_up_to n small (sub.pivot + 1) (omega (arith, within, t.1))))
            (sym (same_sub sub.slot sub.left sub.pivot sub.right 2 0 sub.pivot (sub.pivot + 1) t.0 z refl t.1))
