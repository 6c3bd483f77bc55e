-- How the row of a table begins and ends.
use Rattle.std.proofs.Common.{◌≡◌, ◌<◌, ◌≤◌, ℕ, zero, suc, List, [], ◌∷◌, map, length, Option, Some, slice_get, refl, sym, ap, ◌∙◌, subst, lit<, lit≤}
use Rattle.std.proofs.lemmas.List.FromFn.{length-map-range_with_len}
use mathlib.Core.Option.{some, some-ne-none, some-injective}
use lib.ListN.{get_elem?}
use Rattle.ix_model.specs.Expansion.Parts.{Parts}
use Rattle.ix_cluster.specs.declared.fact.Fact.{Fact}
use Rattle.ix_cluster.specs.Banks.{opening, opening_bank}
use Rattle.ix_cluster.specs.Seen.{Bank}
use Rattle.ix_cluster.specs.Sound.{IsSoundBank, AreSound}
use Rattle.ix_rows.specs.Passes.{Pass}
use Rattle.ix_rows.specs.Views.{root_view}
use Rattle.ix_table.specs.Sights.{sight_of}
use Rattle.ix_table.specs.Tables.{lengths_of, logs_of}
use Rattle.ix_table.proofs.Turns.{taken_sound}

pub elem_at : {X : Type 0} → (xs : List X) (m : ℕ) (x : X) → slice_get xs m ≡ Some x → get_elem? xs m ≡ some x
elem_at [] m x e = absurd (cc)
elem_at (y ∷ ys) zero x e = let is : y ≡ x = cc in ap some is
elem_at (y ∷ ys) (suc m) x e = elem_at ys m x e

pub slice_at : {X : Type 0} → (xs : List X) (m : ℕ) (x : X) → get_elem? xs m ≡ some x → slice_get xs m ≡ Some x
slice_at [] m x e = absurd (some-ne-none x (sym e))
slice_at (y ∷ ys) zero x e = ap Some (some-injective y x e)
slice_at (y ∷ ys) (suc m) x e = slice_at ys m x e

lengths_map : (banks : List Bank) → map length (logs_of banks) ≡ lengths_of banks
lengths_map [] = refl
lengths_map (b ∷ banks) = ap (λ (l : List ℕ). length b.log ∷ l) (lengths_map banks)

module _ (plan : Parts) (banks : List Bank) (is : banks ≡ opening plan 64) (sound : AreSound plan banks) where
  pub many_is : length banks ≡ 64
  many_is = ap length is ∙ length-map-range_with_len (opening_bank plan 64) 0 64

  pub each_sound : (m : ℕ) (x : Bank) → get_elem? banks m ≡ some x → IsSoundBank plan 64 m x
  each_sound m x e = subst (λ (n : ℕ). IsSoundBank plan n m x) many_is (sound.each m x (slice_at banks m x e))

  pub begun_is : map length (logs_of banks) ≡ lengths_of (opening plan 64)
  begun_is = lengths_map banks ∙ ap lengths_of is

  pub sight_is : (p : Pass Bank Parts Fact) → p.me.0 ≡ root_view plan (logs_of banks) → sight_of p ≡ record { known = logs_of (opening plan 64); own = [] }
  sight_is p e = ap (λ v. record { known = v.known; own = v.own }) e ∙ (λ i. record { known = logs_of (is i); own = [] })

  pub opening_sound : AreSound plan (opening plan 64)
  opening_sound = subst (AreSound plan) is sound

-- banks of which each is sound at its place, for the plan that is named
pub all_sound : (plan : Parts) (topic : Option Parts) (banks : List Bank) → length banks ≡ 64 → topic ≡ Some plan → ((t : Parts) × (topic ≡ Some t) × ((m : ℕ) (x : Bank) → get_elem? banks m ≡ some x → IsSoundBank t 64 m x)) → AreSound plan banks
all_sound plan topic banks many names (t, is, each) = record {
  some = subst (λ (n : ℕ). 0 < n) (sym many) (lit< tt);
  few = subst (λ (n : ℕ). n ≤ 64) (sym many) (lit≤ tt);
  each = λ m bank there. subst (λ (n : ℕ). IsSoundBank plan n m bank) (sym many) (taken_sound plan topic m bank names (t, is, each m bank (elem_at banks m bank there)));
}
