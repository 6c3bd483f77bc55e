-- Things of a kind have one number.
use Rattle.std.proofs.Common.{◌≡◌, ℕ, suc, ◌≤◌, List, [], ◌∷◌, length, remove, Some, slice_get, refl, ap, ap₂, arith}
use Rattle.std.proofs.lemmas.List.Edits.{length-remove}
use Rattle.std.proofs.lemmas.Option.{slice_get_within}
use Rattle.ix_model.specs.declared.counts.Counts.{Counts}
use Rattle.ix_model.specs.Closure.Counting.{Lists, HasCount}
use Rattle.ix_model.specs.Closure.Figures.{AreCounts}
use Rattle.ix_model.specs.Expansion.Parts.{Parts}
use Rattle.ix_figure_laws.proofs.Places.{IsIn, left_over}

module _ {X : Type 0} where
  -- no two places of the list have the same
  abbrev AreOnce : List X → Type 0
  AreOnce xs = (m n : ℕ) (x : X) → slice_get xs m ≡ Some x → slice_get xs n ≡ Some x → m ≡ n

  -- a list with no element twice whose elements are all in another is no longer than it
  no_longer : (xs ys : List X) → AreOnce xs → ((n : ℕ) (x : X) → slice_get xs n ≡ Some x → IsIn ys x) → length xs ≤ length ys
  no_longer [] ys once within = omega arith
  no_longer (x ∷ xs) ys once within =
      let place = within 0 x refl in
      let left : (n : ℕ) (y : X) → slice_get xs n ≡ Some y → IsIn (remove ys place.0) y
      = λ n y e.
      let other = within (suc n) y e in
      left_over ys place.0 other.0 y other.1 (λ q. let same : x ≡ y = cc (place.1, other.1, q) in omega (arith, once 0 (suc n) y (ap Some same) e)) in
      omega (arith, no_longer xs (remove ys place.0) (λ m n y d e. omega (arith, once (suc m) (suc n) y d e)) left, length-remove ys place.0 (slice_get_within ys place.0 x place.1))

  -- two lists of all things of a kind are as long as each other
  as_long : (P : X → Type 0) (xs ys : List X) → Lists P xs → Lists P ys → length xs ≤ length ys
  as_long P xs ys a b = no_longer xs ys a.once (λ n x e. b.whole x (a.sound n x e))

  -- two kinds of the same things have one number
  pub counts_agree : (P Q : X → Type 0) → ((x : X) → P x → Q x) → ((x : X) → Q x → P x) → (m n : ℕ) → HasCount P m → HasCount Q n → m ≡ n
  counts_agree P Q there back m n a b =
      let same : Lists Q a.0 = record { sound = λ k x e. there x (a.1.sound k x e); whole = λ x h. a.1.whole x (back x h); once = a.1.once } in
      omega (arith, a.2, b.2, as_long Q a.0 b.0 same b.1, as_long Q b.0 a.0 b.1 same)

  -- a kind has one number
  pub count_is_one : (P : X → Type 0) (m n : ℕ) → HasCount P m → HasCount P n → m ≡ n
  count_is_one P = counts_agree P P (λ x h. h) (λ x h. h)

pub counts_are_one : (plan : Parts) (a b : Counts) → AreCounts plan a → AreCounts plan b → a ≡ b
counts_are_one plan a b h k =
    ap₂ (λ (m n : ℕ). record { descriptors = m; subtrees = n }) (count_is_one _ a.descriptors b.descriptors h.descriptors k.descriptors) (count_is_one _ a.subtrees b.subtrees h.subtrees k.subtrees)
