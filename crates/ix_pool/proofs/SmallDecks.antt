-- What a number of three decks may be, for the worked examples.
use Rattle.std.proofs.Common.{◌<◌, ℕ, zero, suc, arith}

-- what holds of none of three numbers, holds of none below three
pub none_of_three : (P : ℕ → Type 0) → (P 0 → ⊥) → (P 1 → ⊥) → (P 2 → ⊥) → (w : ℕ) → w < 3 → P w → ⊥
none_of_three P a b c zero near p = a p
none_of_three P a b c (suc zero) near p = b p
none_of_three P a b c (suc (suc zero)) near p = c p
none_of_three P a b c (suc (suc (suc w))) near p = omega (arith, near)
