-- Two ways to derive one span, and two derivations of the text.
use Rattle.std.specs.Prelude.{◌≢◌, ◌⊎◌, ℕ}
use Rattle.ix_model.specs.Expansion.Parts.{Parts}
use Rattle.ix_model.specs.Expansion.FlatTrees.{FlatTree}
use Rattle.ix_model.specs.Expansion.FlatDerives.{IsFlatDerivation}
use Rattle.ix_model.specs.Expansion.SlotPlaces.{IsLastSlot}
use Rattle.ix_model.specs.Closure.Useful.{sub_at, Useful}

module _ (plan : Parts) where
  -- of one rule and span, useful subtrees end two alternatives
  abbrev pub HasTwoAlternatives : Type 0
  HasTwoAlternatives =
      (q : ℕ) × (l : ℕ) × (r : ℕ) × (s : ℕ) × (t : ℕ) × (k : ℕ) × (m : ℕ) × (s ≢ t) × IsLastSlot plan s q × IsLastSlot plan t q × Useful plan (sub_at s l k r) × Useful plan (sub_at t l m r)

  -- of one slot and span, useful subtrees have two pivots
  abbrev pub HasTwoPivots : Type 0
  HasTwoPivots = (s : ℕ) × (l : ℕ) × (r : ℕ) × (k : ℕ) × (m : ℕ) × (k ≢ m) × Useful plan (sub_at s l k r) × Useful plan (sub_at s l m r)

  -- some span has two ways
  abbrev pub HasTwoWays : Type 0
  HasTwoWays = HasTwoAlternatives ⊎ HasTwoPivots

  -- two different trees derive the whole text over the numbered rules
  abbrev pub FlatAmbiguous : Type 0
  FlatAmbiguous = (d : FlatTree) × (e : FlatTree) × IsFlatDerivation plan d × IsFlatDerivation plan e × (d ≢ e)
