-- Lists that grow at their end, and lists of which one element is changed, place by place.
use Rattle.std.proofs.Common.{◌≡◌, ◌≢◌, refl, ap, ◌∙◌, ℕ, zero, suc, ◌+◌, ◌<◌, List, [], ◌∷◌, ◌++◌, length, Some, arith}
use Rattle.std.specs.Prelude.{slice_get, slice_set}
use Rattle.std.proofs.lemmas.List.{length-append}
use Rattle.ix_expand.specs.Growth.{BeginsWith, HasBehind}

pub get_before : {X : Type 0} (xs ys : List X) (n : ℕ) → n < length xs → slice_get (xs ++ ys) n ≡ slice_get xs n
get_before [] ys n h = absurd (omega (arith, h))
get_before (x ∷ xs) ys zero h = refl
get_before (x ∷ xs) ys (suc n) h = get_before xs ys n (omega (arith, h))

pub get_behind : {X : Type 0} (xs ys : List X) (n : ℕ) → slice_get (xs ++ ys) (length xs + n) ≡ slice_get ys n
get_behind [] ys n = let e : 0 + n ≡ n = omega arith in ap (slice_get ys) e
get_behind (x ∷ xs) ys n =
    let e : suc (length xs) + n ≡ suc (length xs + n) = omega arith in
    ap (slice_get (x ∷ (xs ++ ys))) e ∙ get_behind xs ys n

pub get_last : {X : Type 0} (xs : List X) (y : X) → slice_get (xs ++ y ∷ []) (length xs) ≡ Some y
get_last [] y = refl
get_last (x ∷ xs) y = get_last xs y

pub get_set_same : {X : Type 0} (xs : List X) (n : ℕ) (y : X) → n < length xs → slice_get (slice_set xs n y) n ≡ Some y
get_set_same [] n y h = absurd (omega (arith, h))
get_set_same (x ∷ xs) zero y h = refl
get_set_same (x ∷ xs) (suc n) y h = get_set_same xs n y (omega (arith, h))

pub get_set_other : {X : Type 0} (xs : List X) (n k : ℕ) (y : X) → k ≢ n → slice_get (slice_set xs n y) k ≡ slice_get xs k
get_set_other [] n k y d = refl
get_set_other (x ∷ xs) zero zero y d = absurd (d refl)
get_set_other (x ∷ xs) zero (suc k) y d = refl
get_set_other (x ∷ xs) (suc n) zero y d = refl
get_set_other (x ∷ xs) (suc n) (suc k) y d = get_set_other xs n k y (λ e. d (ap suc e))

-- ---- what begins with what

pub begins_refl : {X : Type 0} (xs : List X) → BeginsWith xs xs
begins_refl xs = record { longer = omega arith; same = λ n h. refl }

pub begins_trans : {X : Type 0} (xs ys zs : List X) → BeginsWith ys xs → BeginsWith zs ys → BeginsWith zs xs
begins_trans xs ys zs b c = record { longer = omega arith; same = λ n h. c.same n (omega arith) ∙ b.same n h }

pub begins_push : {X : Type 0} (xs : List X) (y : X) → BeginsWith (xs ++ y ∷ []) xs
begins_push xs y = record { longer = omega (arith, length-append xs (y ∷ [])); same = λ n h. get_before xs (y ∷ []) n h }

-- ---- what stands behind a list

pub behind_first : {X : Type 0} (first : ℕ) (xs ys zs ws : List X) → BeginsWith zs ys → HasBehind first xs zs ws → HasBehind first xs ys ws
behind_first first xs ys zs ws b h = λ n l k. h n l (omega (arith, k, b.longer)) ∙ b.same n k

pub behind_last : {X : Type 0} (first : ℕ) (xs ys zs ws : List X) → BeginsWith ys xs → HasBehind first xs zs ws → HasBehind first ys zs ws
behind_last first xs ys zs ws b h = λ n l k. h n (omega (arith, l, b.longer)) k
