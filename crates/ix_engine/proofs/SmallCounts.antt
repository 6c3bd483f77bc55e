-- The figures of `S: "a".` on `a` and on `b`, and a kind of one thing.
use Rattle.std.proofs.Common.{◌≡◌, ◌⊎◌, ℕ, zero, suc, [], ◌∷◌, true, Some, None, codes, slice_get, refl, ap, sym, subst, inl, inr, arith}
use Rattle.ix_model.specs.declared.sub.Sub.{Sub}
use Rattle.ix_model.specs.Closure.Closed.{Desc}
use Rattle.ix_model.specs.Closure.Useful.{sub_at, Useful}
use Rattle.ix_model.specs.Expansion.Planned.{IsPlanOf}
use Rattle.ix_closure_laws.proofs.Reaching.{reached_part, useful_reached}
use Rattle.ix_cluster.specs.declared.fact.Fact.TheVariants as fact
use Rattle.ix_closure.proofs.Small.SmallStates.{b_closure}
use Rattle.ix_examples.specs.SmallGrammars as grammars
use Rattle.ix_examples.specs.SmallPlans.{only_a, a_by}
use Rattle.ix_examples.proofs.SmallClosures.{desc_0, desc_1, desc_a, part_a, no_part_b}
use Rattle.ix_examples.proofs.SmallPlans.{planned_a, planned_b}
use Rattle.ix_worked_examples.proofs.SmallRules.{plan_of_a}
use Rattle.ix_model.specs.Closure.Counting.{Lists}
use Rattle.ix_engine.specs.Examples.{a_counts, b_counts}
use Rattle.ix_model.specs.Closure.Figures.{Dot, AreCounts}
use Rattle.ix_engine.proofs.DescriptorCounts.{descriptors_counted}

-- ---- one thing

-- a list of one has all things of a kind, where it is the only one
lists_one : {A : Type 0} (P : A → Type 0) (x : A) → P x → ((y : A) → P y → x ≡ y) → Lists P (x ∷ [])
lists_one P x here only = record { sound = sound; whole = λ y h. (0, let e = only y h in cc e); once = once }
  where
    sound : (n : ℕ) (y : _) → slice_get (x ∷ []) n ≡ Some y → P y
    sound zero y e = let same : x ≡ y = cc e in subst P same here
    sound (suc n) y e = absurd (cc e)

    once : (m n : ℕ) (y : _) → slice_get (x ∷ []) m ≡ Some y → slice_get (x ∷ []) n ≡ Some y → m ≡ n
    once zero zero y d e = refl
    once zero (suc n) y d e = absurd (cc e)
    once (suc m) n y d e = absurd (cc d)

pub lists_zero : Lists (λ (n : ℕ). n ≡ 0) (0 ∷ [])
lists_zero = lists_one (λ (n : ℕ). n ≡ 0) 0 refl (λ y e. sym e)

-- ---- on `a`

dot : ℕ → ℕ → ℕ → Dot
dot s l p = record { slot = s; left = l; pos = p }

dot_is : (s l p : ℕ) (d : Dot) → d.slot ≡ s → d.left ≡ l → d.pos ≡ p → dot s l p ≡ d
unfolding dot
dot_is s l p d a b c = let e : ◌≡◌ {A = Dot} (record { slot = s; left = l; pos = p }) (record { slot = d.slot; left = d.left; pos = d.pos }) = cc (a, b, c) in e

dots_apart : (d : Dot) → dot 0 0 0 ≡ d → dot 1 0 1 ≡ d → ⊥
unfolding dot
dots_apart d e o = omega (arith, ap (λ (z : Dot). z.slot) e, ap (λ (z : Dot). z.slot) o)

lists_dots : Lists (λ (d : Dot). Desc (only_a (codes "a")) d.slot d.left d.pos) (dot 0 0 0 ∷ dot 1 0 1 ∷ [])
unfolding dot
lists_dots = record { sound = sound; whole = whole; once = once }
  where
    sound : (n : ℕ) (d : Dot) → slice_get (dot 0 0 0 ∷ dot 1 0 1 ∷ []) n ≡ Some d → Desc (only_a (codes "a")) d.slot d.left d.pos
    sound zero d e = let same : dot 0 0 0 ≡ d = cc e in subst (λ (d : Dot). Desc (only_a (codes "a")) d.slot d.left d.pos) same (desc_0 (codes "a"))
    sound (suc zero) d e = let same : dot 1 0 1 ≡ d = cc e in subst (λ (d : Dot). Desc (only_a (codes "a")) d.slot d.left d.pos) same desc_1
    sound (suc (suc n)) d e = absurd (cc e)

    by : (d : Dot) → (d.left ≡ 0) × (((d.slot ≡ 0) × (d.pos ≡ 0)) ⊎ ((d.slot ≡ 1) × (d.pos ≡ 1))) → (n : ℕ) × (slice_get (dot 0 0 0 ∷ dot 1 0 1 ∷ []) n ≡ Some d)
    by d (l, inl (s, p)) = (0, ap Some (dot_is 0 0 0 d s l p))
    by d (l, inr (s, p)) = (1, ap Some (dot_is 1 0 1 d s l p))

    whole : (d : Dot) → Desc (only_a (codes "a")) d.slot d.left d.pos → (n : ℕ) × (slice_get (dot 0 0 0 ∷ dot 1 0 1 ∷ []) n ≡ Some d)
    whole d h = by d (desc_a d.slot d.left d.pos h)

    once : (m n : ℕ) (d : Dot) → slice_get (dot 0 0 0 ∷ dot 1 0 1 ∷ []) m ≡ Some d → slice_get (dot 0 0 0 ∷ dot 1 0 1 ∷ []) n ≡ Some d → m ≡ n
    once zero zero d e o = refl
    once zero (suc zero) d e o = absurd (dots_apart d (cc e) (cc o))
    once (suc zero) zero d e o = absurd (dots_apart d (cc o) (cc e))
    once (suc zero) (suc zero) d e o = refl
    once (suc (suc m)) n d e o = absurd (cc e)
    once m (suc (suc n)) d e o = absurd (cc o)

useful_a : Useful (only_a (codes "a")) (sub_at 1 0 0 1)
useful_a =
    (a_by 0, (None, refl, _, (_, _, refl, refl, refl), refl, (0, _, refl, refl, (refl, refl, (0, true, _, refl, refl, (refl, omega arith, refl))))), inr (inl (1, refl, refl)))

only_useful_a : (sub : Sub) → Useful (only_a (codes "a")) sub → sub_at 1 0 0 1 ≡ sub
only_useful_a sub h =
    let p = part_a sub.slot sub.left sub.pivot sub.right (reached_part (only_a (codes "a")) planned_a sub.slot sub.left sub.pivot sub.right (useful_reached (only_a (codes "a")) planned_a sub h)) in
    let e : sub_at 1 0 0 1 ≡ sub_at sub.slot sub.left sub.pivot sub.right = cc (p.0, p.1, p.2, p.3) in
    e

pub counts_on_a : AreCounts (only_a (codes "a")) a_counts
counts_on_a = record {
  descriptors = (dot 0 0 0 ∷ dot 1 0 1 ∷ [], lists_dots, refl);
  subtrees = (sub_at 1 0 0 1 ∷ [], lists_one (Useful (only_a (codes "a"))) (sub_at 1 0 0 1) useful_a only_useful_a, refl);
}

-- ---- on `b`

none_useful_b : Lists (Useful (only_a (codes "b"))) []
none_useful_b = record {
  sound = λ n x e. absurd (cc e);
  whole = λ sub h. absurd (no_part_b sub.slot sub.left sub.pivot sub.right (reached_part (only_a (codes "b")) planned_b sub.slot sub.left sub.pivot sub.right (useful_reached (only_a (codes "b")) planned_b sub h)));
  once = λ m n x d e. absurd (cc d);
}

pub counts_on_b : AreCounts (only_a (codes "b")) b_counts
counts_on_b = record {
  descriptors = descriptors_counted (only_a (codes "b")) (fact.Called 0 0 ∷ fact.Desc 0 0 0 ∷ fact.Claim 0 0 0 ∷ []) b_closure 1 refl;
  subtrees = ([], none_useful_b, refl);
}

pub plan_of_b : IsPlanOf grammars.only_a (only_a (codes "b"))
plan_of_b = record { text = (refl, tt); unique = plan_of_a.unique; first = plan_of_a.first; expanded = plan_of_a.expanded }
