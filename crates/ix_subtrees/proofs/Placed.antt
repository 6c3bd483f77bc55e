-- The places of slots.
use Rattle.std.proofs.Common.{◌≡◌, ◌∙◌, sym, subst, ◌<◌, ℕ, List, [], ◌∷◌, ◌++◌, length, get_or, arith}
use mathlib.Core.Logic.{inl, inr}
use Rattle.std.proofs.lemmas.Bool.{cases_lt}
use Rattle.std.proofs.lemmas.List.{get_or_append_left, get_or_push, length_push}
use Rattle.ix_model.specs.Expansion.Parts.{Parts}
use Rattle.ix_subtrees.specs.declared.place.Place.{Place}
use Rattle.ix_subtrees.specs.Places.{IsPlace}
use Rattle.ix_subtrees.specs.Walks.{no_place}

pub place_pushed : (plan : Parts) (xs ys : List Place) (p : Place) (n : ℕ) → length xs ≡ n → ((s : ℕ) → s < length xs → IsPlace plan s (get_or xs s no_place)) → IsPlace plan n p → ys ≡ xs ++ p ∷ [] → (s : ℕ) → s < length ys → IsPlace plan s (get_or ys s no_place)
place_pushed plan xs ys p n l each new e s h = subst (λ (zs : List Place). IsPlace plan s (get_or zs s no_place)) (sym e) (elim (cases_lt s (length xs)) [
  | inl k ↦ subst (IsPlace plan s) (sym (get_or_append_left xs (p ∷ []) no_place s k)) (each s k)
  | inr k ↦
      let last : length xs ≡ s = omega (arith, k, subst (λ (zs : List Place). s < length zs) e h, length_push xs p) in
      subst (IsPlace plan s) (sym (get_or_push xs p no_place s last)) (subst (λ (z : ℕ). IsPlace plan z p) (sym l ∙ last) new)
])
