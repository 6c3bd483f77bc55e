-- What a step of a table changes in the sight of its pass, and how the entries of a closed table are own.
use Rattle.std.proofs.Common.{◌≡◌, ◌≢◌, ◌<◌, ◌≤◌, ◌+◌, ◌-◌, ◌⊎◌, ◌↔◌, inl, inr, ℕ, zero, suc, List, [], ◌∷◌, ◌++◌, map, length, Contains, Some, slice_get, slice_index_or, refl, sym, ap, ◌∙◌, subst, arith}
use Rattle.std.proofs.lemmas.List.Elements.{Contains-append_left, Contains-append_right, Contains-append_cases}
use mathlib.Core.Logic.{dite}
use native.Mathlib.Decide.{ℕ_discrete}
use Rattle.ix_model.specs.Expansion.Parts.{Parts}
use Rattle.ix_cluster.specs.BankSteps.{Call, Answer}
use Rattle.ix_cluster.specs.Seen.{Bank}
use Rattle.ix_cluster.specs.Sound.{AreSound}
use Rattle.ix_cluster.proofs.Members.{first_has, rest_has, either_has, none_has}
use Rattle.ix_cluster.proofs.StepCases.{step_appends}
use Rattle.ix_rows.specs.Beginnings.{Begins}
use Rattle.ix_rows.specs.Logs.{log_at}
use Rattle.ix_rows.specs.Numbers.{run, times}
use Rattle.ix_rows.proofs.Logs.{begins_all, begins_length, put_here, put_else, times_in}
use Rattle.ix_table.specs.Calls.{place_for}
use Rattle.ix_table.specs.Sights.{Sight}
use Rattle.ix_table.specs.TableSteps.{IsStep}
use Rattle.ix_table.specs.Tables.{IsClosed, lengths_of, logs_of}

pub run_length : (m a n : ℕ) → length (run m a n) ≡ n
run_length m a zero = refl
run_length m a (suc n) = let e = run_length m (suc a) n in omega (arith, e)

run_from : (m a n j k : ℕ) → Contains (run m a n) (j, k) → (j ≡ m) × (a ≤ k) × (k < a + n)
run_from m a zero j k h = absurd (none_has (j, k) h)
run_from m a (suc n) j k h = elim (either_has (m, a) (run m (suc a) n) (j, k) h) [
  | inl e ↦ let at : a ≡ k = ap (λ (z : ℕ × ℕ). z.1) e in (sym (ap (λ (z : ℕ × ℕ). z.0) e), omega (arith, at), omega (arith, at))
  | inr r ↦ let f = run_from m (suc a) n j k r in (f.0, omega (arith, f.1), omega (arith, f.2))
]

run_has : (m a n k : ℕ) → a ≤ k → k < a + n → Contains (run m a n) (m, k)
run_has m a zero k low high = absurd (omega (arith, low, high))
run_has m a (suc n) k low high = dite (ℕ_discrete a k)
    (λ e. subst (λ (z : ℕ). Contains ((m, a) ∷ run m (suc a) n) (m, z)) e (first_has (m, a) (run m (suc a) n)))
    (λ o. rest_has (m, a) (run m (suc a) n) (m, k) (run_has m (suc a) n k (omega arith) (omega arith)))

module _ (plan : Parts) (old : Sight) (call : Call) (answer : Answer) (new : Sight) (step : IsStep plan old call answer new) where
  pub changes : (log_at new.known (place_for plan call) ≡ step.left.log) × ((m : ℕ) → m ≢ place_for plan call → log_at new.known m ≡ log_at old.known m)
      × ((m k : ℕ) → Contains new.own (m, k) ↔ (Contains old.own (m, k) ⊎ ((m ≡ place_for plan call) × (length step.met.log ≤ k) × (k < length step.left.log))))
  changes = (
    ap (λ (z : Sight). log_at z.known home) step.now ∙ put_here old.known home step.left.log,
    λ m o. ap (λ (z : Sight). log_at z.known m) step.now ∙ put_else old.known home m step.left.log o,
    λ m k. (
      λ h. elim (Contains-append_cases old.own more (m, k) (subst (λ (z : List (ℕ × ℕ)). Contains z (m, k)) own h)) [
        | inl was ↦ inl was
        | inr came ↦ let f = run_from home (length step.met.log) (length step.left.log - length step.met.log) m k came in let l = longer in inr (f.0, f.1, omega (arith, f.2, l))
      ],
      λ h. subst (λ (z : List (ℕ × ℕ)). Contains z (m, k)) (sym own) (elim h [
        | inl was ↦ Contains-append_left old.own more (m, k) was
        | inr came ↦
            Contains-append_right old.own more (m, k)
            (let l = longer in subst (λ (z : ℕ). Contains more (z, k)) (sym came.0) (run_has home (length step.met.log) (length step.left.log - length step.met.log) k came.1 (let high = came.2 in omega (arith, high, l))))
      ]),
    ),
  )
    where
      home : ℕ
      home = place_for plan call

      more : List (ℕ × ℕ)
      more = run home (length step.met.log) (length step.left.log - length step.met.log)

      own : new.own ≡ old.own ++ more
      own = ap (λ (z : Sight). z.own) step.now

      longer : length step.met.log ≤ length step.left.log
      longer = begins_length step.left.log step.met.log (step_appends plan step.met.log call answer step.left.log step.step)

pub own_once : (plan : Parts) (begun : List ℕ) (root : Sight) (banks : List Bank) (m k : ℕ) (bank : Bank) → IsClosed plan begun root banks → slice_get banks m ≡ Some bank → slice_index_or begun m 0 ≤ k → k < length bank.log → times m k root.own ≡ 1
own_once plan begun root banks m k bank closed there low high = closed.counted m k bank there ∙ times_in m k (slice_index_or begun m 0) (length bank.log - slice_index_or begun m 0) low (omega (arith, low, high))

mapped_at : {Y : Type 0} → (f : Bank → Y) (none : Y) (banks : List Bank) (m : ℕ) (bank : Bank) → slice_get banks m ≡ Some bank → slice_index_or (map f banks) m none ≡ f bank
mapped_at f none [] m bank e = absurd (cc)
mapped_at f none (b ∷ banks) zero bank e = let is : b ≡ bank = cc in ap f is
mapped_at f none (b ∷ banks) (suc m) bank e = mapped_at f none banks m bank e

none_came : (m k n : ℕ) → 0 ≡ times m k (run m n (n - n))
none_came m k n = let e : 0 ≡ n - n = omega arith in ap (λ (z : ℕ). times m k (run m n z)) e

pub beginning_closes : (plan : Parts) (banks : List Bank) → AreSound plan banks → length banks ≡ 64 → IsClosed plan (lengths_of banks) (record { known = logs_of banks; own = [] }) banks
beginning_closes plan banks sound many = record {
  many = many;
  sound = sound;
  begin = λ m bank there. subst (Begins bank.log) (sym (mapped_at (λ (b : Bank). b.log) [] banks m bank there)) (begins_all bank.log);
  counted = λ m k bank there. subst (λ (n : ℕ). 0 ≡ times m k (run m n (length bank.log - n))) (sym (mapped_at (λ (b : Bank). length b.log) 0 banks m bank there)) (none_came m k (length bank.log));
}
