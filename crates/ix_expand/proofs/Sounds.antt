-- What is sound in the parts of what is sound.
use Rattle.std.proofs.Common.{◌≡◌, sym as symm, subst, ℕ, ◌+◌, ◌<◌, List, [], ◌∷◌, ◌++◌, length, map, drop, Option}
use Rattle.std.specs.Prelude.{slice_index_or, option_map}
use Rattle.std.specs.List.{AllByRecursion, flat_map}
use Rattle.std.proofs.lemmas.List.Folds.{flat_map-map}
use Rattle.ix_model.specs.declared.grammar.Grammar.{Grammar}
use Rattle.ix_model.specs.declared.grammar.Term.{Star, Plus}
use Rattle.ix_model.specs.declared.grammar.Factor.{Factor}
use Rattle.ix_model.specs.Grammars.Breach.{IsCodePoint, IsDefined, Conforming}
use Rattle.ix_conformance_laws.specs.Laws.{IsFaultless}
use Rattle.ix_model.specs.Spelling.Spells.{IsHex}
use Rattle.ix_model.specs.Grammars.Factors.{factor_step, term_step, alt_step, joined, of_separator, factors_of_factor, factors_of_term, factors_of, codes_of_factor, calls_of_factor}
use Rattle.ix_model.proofs.Folds as F
use Rattle.ix_expand.specs.Sound.{IsSound}
use Rattle.ix_model.proofs.AllOf.{all_left, all_right, all_parts}
use Rattle.ix_conformance_laws.proofs.Judging.{faultless}
use Rattle.ix_expand.proofs.Sequences.{drop_item}

module _ {X : Type 0} (P : X → Type 0) where
  -- of what is left of a list: of the next, and of those behind it
  module _ {Y : Type 0} (f : Y → List X) where
    pub flat_next : (ys : List Y) (i : ℕ) (y : Y) → i < length ys → y ≡ slice_index_or ys i y → AllByRecursion P (flat_map f (drop i ys)) → AllByRecursion P (f y)
    flat_next ys i y l e h = all_left P (f y) (flat_map f (drop (i + 1) ys)) (subst (λ (zs : List Y). AllByRecursion P (flat_map f zs)) (drop_item ys i y l e) h)

    pub flat_behind : (ys : List Y) (i : ℕ) (y : Y) → i < length ys → y ≡ slice_index_or ys i y → AllByRecursion P (flat_map f (drop i ys)) → AllByRecursion P (flat_map f (drop (i + 1) ys))
    flat_behind ys i y l e h = all_right P (f y) (flat_map f (drop (i + 1) ys)) (subst (λ (zs : List Y). AllByRecursion P (flat_map f zs)) (drop_item ys i y l e) h)

module _ (P : Factor → Type 0) where
  abbrev All : List Factor → Type 0
  All fs = AllByRecursion P fs

  -- of a repetition: its item and its separator
  pub all_of_star : (f : Factor) (sep : Option Factor) → All (factors_of_term (Star f sep)) → All (factors_of_factor f) × All (of_separator (option_map factors_of_factor sep))
  all_of_star f sep h =
      let k : All (factors_of_factor f ++ of_separator (option_map factors_of_factor sep)) = subst All (F.fold_star (List Factor) (List Factor) (List Factor) factor_step term_step alt_step f sep) h in
      (all_left P _ _ k, all_right P _ _ k)

  pub all_of_plus : (f : Factor) (sep : Option Factor) → All (factors_of_term (Plus f sep)) → All (factors_of_factor f) × All (of_separator (option_map factors_of_factor sep))
  all_of_plus f sep h =
      let k : All (factors_of_factor f ++ of_separator (option_map factors_of_factor sep)) = subst All (F.fold_plus (List Factor) (List Factor) (List Factor) factor_step term_step alt_step f sep) h in
      (all_left P _ _ k, all_right P _ _ k)

  module _ {X : Type 0} (factors : X → List Factor) where
    pub all_joined : (xs : List X) → All (flat_map factors xs) → All (joined (map factors xs))
    all_joined xs h = subst All (symm (flat_map-map (λ fs. fs) factors xs)) h

    pub all_flat : (xs : List X) → All (joined (map factors xs)) → All (flat_map factors xs)
    all_flat xs h = subst All (flat_map-map (λ fs. fs) factors xs) h

    pub all_next : (xs : List X) (i : ℕ) (x : X) → i < length xs → x ≡ slice_index_or xs i x → All (joined (map factors (drop i xs))) → All (factors x)
    all_next xs i x l e h = flat_next P factors xs i x l e (all_flat (drop i xs) h)

    pub all_behind : (xs : List X) (i : ℕ) (x : X) → i < length xs → x ≡ slice_index_or xs i x → All (joined (map factors (drop i xs))) → All (joined (map factors (drop (i + 1) xs)))
    all_behind xs i x l e h = all_joined (drop (i + 1) xs) (flat_behind P factors xs i x l e (all_flat (drop i xs) h))

-- the factors of a conforming grammar are sound
pub conforming_sound : (g : Grammar) → Conforming g → AllByRecursion (IsSound g) (factors_of g)
conforming_sound g c = sound (factors_of g) (all_parts IsHex codes_of_factor _ c.numbers) (all_parts IsCodePoint codes_of_factor _ unbroken.code_points) (all_parts (IsDefined g) calls_of_factor _ unbroken.calls)
  where
    unbroken : IsFaultless g
    unbroken = faultless g c.no_breach

    sound : (fs : List Factor) → AllByRecursion (λ f. AllByRecursion IsHex (codes_of_factor f)) fs → AllByRecursion (λ f. AllByRecursion IsCodePoint (codes_of_factor f)) fs → AllByRecursion (λ f. AllByRecursion (IsDefined g) (calls_of_factor f)) fs → AllByRecursion (IsSound g) fs
    sound [] n p d = tt
    sound (f ∷ fs) n p d = (record { numbers = n.0; code_points = p.0; calls = d.0 }, sound fs n.1 p.1 d.1)
