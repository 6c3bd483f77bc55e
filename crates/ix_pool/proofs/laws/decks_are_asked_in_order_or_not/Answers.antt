use Rattle.std.proofs.Common.{◌≡◌, ◌<◌, ℕ, [], ◌∷◌, refl, arith}
use mathlib.Core.Logic.{inl, inr}
use Rattle.ix_pool.specs.Asking.{GaveAt}
use Rattle.ix_pool.proofs.SmallDecks.{none_of_three}
use Rattle.ix_pool.proofs.laws.decks_are_asked_in_order_or_not.Goals as goal

pub returns-clause-own_twice : goal.returns-clause-own_twice
returns-clause-own_twice c = λ h. none_of_three (λ w. GaveAt {D = ℕ} (λ n. n) 1 (4 ∷ 5 ∷ 6 ∷ []) (4 ∷ 7 ∷ 6 ∷ []) w)
    (λ g. let n : 1 < 3 = omega arith in let e : 7 ≡ 6 = g.missed 1 (λ z. omega (arith, z), inl refl) 0 n in omega (arith, e))
    (λ g. let n : 1 < 3 = omega arith in let e : 7 ≡ 5 = g.same 0 n in omega (arith, e))
    (λ g. let n : 0 < 3 = omega arith in let e : 4 ≡ 5 = g.missed 0 (λ z. omega (arith, z), inr (omega arith)) 0 n in omega (arith, e))
    h.0 h.1.within h.1

pub returns-clause-nobody_gave : goal.returns-clause-nobody_gave
returns-clause-nobody_gave c = λ h. none_of_three (λ w. GaveAt {D = ℕ} (λ n. n) 1 (4 ∷ 5 ∷ 6 ∷ []) (5 ∷ 6 ∷ 7 ∷ []) w)
    (λ g. let n : 0 < 3 = omega arith in let e : 5 ≡ 4 = g.same 0 n in omega (arith, e))
    (λ g. let n : 1 < 3 = omega arith in let e : 6 ≡ 5 = g.same 0 n in omega (arith, e))
    (λ g. let n : 2 < 3 = omega arith in let e : 7 ≡ 6 = g.same 0 n in omega (arith, e))
    h.0 h.1.within h.1
