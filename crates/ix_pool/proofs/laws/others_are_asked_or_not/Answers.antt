use Rattle.std.proofs.Common.{◌≡◌, ◌≢◌, ◌<◌, ℕ, [], ◌∷◌, refl, arith}
use Rattle.ix_pool.specs.Asking.{SameCount}
use Rattle.ix_pool.proofs.SmallDecks.{none_of_three}
use Rattle.ix_pool.proofs.laws.others_are_asked_or_not.Goals as goal

pub returns-clause-own_gave : goal.returns-clause-own_gave
returns-clause-own_gave c = λ h. none_of_three (λ w. (w ≢ 2) × SameCount {D = ℕ} (λ n. n) (4 ∷ 5 ∷ 6 ∷ []) (5 ∷ 6 ∷ 6 ∷ []) w)
    (λ g. let n : 0 < 3 = omega arith in let e : 5 ≡ 4 = g.1 0 n in omega (arith, e))
    (λ g. let n : 1 < 3 = omega arith in let e : 6 ≡ 5 = g.1 0 n in omega (arith, e))
    (λ g. g.0 refl)
    h.0 h.2 (h.1, h.4)

pub returns-clause-nobody_gave : goal.returns-clause-nobody_gave
returns-clause-nobody_gave c = λ h. none_of_three (λ w. (w ≢ 1) × SameCount {D = ℕ} (λ n. n) (4 ∷ 5 ∷ 6 ∷ []) (5 ∷ 5 ∷ 7 ∷ []) w)
    (λ g. let n : 0 < 3 = omega arith in let e : 5 ≡ 4 = g.1 0 n in omega (arith, e))
    (λ g. g.0 refl)
    (λ g. let n : 2 < 3 = omega arith in let e : 7 ≡ 6 = g.1 0 n in omega (arith, e))
    h.0 h.2 (h.1, h.4)
