-- The useful binary subtrees: those that stand in some derivation of the whole text over the numbered rules.
use Rattle.std.specs.Prelude.{◌≡◌, ◌⊎◌, ℕ, ◌+◌, ◌-◌, length}
use Rattle.ix_model.specs.declared.sub.Sub.{Sub}
use Rattle.ix_model.specs.Expansion.Parts.{Parts}
use Rattle.ix_model.specs.Expansion.Slots.{IsSlot}
use Rattle.ix_model.specs.Expansion.FlatTrees.{FlatTree, flat_text, flat_insertion, flat_node, FlatTrees, no_flat, flats_and, flat_count, flat_width}
use Rattle.ix_model.specs.Expansion.FlatDerives.{IsFlatDerivation}

-- the binary subtree of slot s from l to r with pivot k
abbrev pub sub_at : ℕ → ℕ → ℕ → ℕ → Sub
sub_at s l k r = record { slot = s; left = l; pivot = k; right = r }

module _ (plan : Parts) where
  -- it is the binary subtree of this rule, alternative and dot with this span and pivot
  abbrev pub IsSub : Sub → ℕ → ℕ → ℕ → ℕ → ℕ → ℕ → Type 0
  IsSub sub r a dot left pivot right = (s : ℕ) × IsSlot plan s r a dot × (sub ≡ sub_at s left pivot right)

  abbrev mutual
    -- it stands in the tree, which derives a span from l to j: for an empty alternative the empty one, else those
    -- behind each symbol and those in the trees of the symbols
    pub Stands : FlatTree → Sub → ℕ → ℕ → Type 0
    Stands (flat_text i k) sub l j = ⊥
    Stands flat_insertion sub l j = ⊥
    Stands (flat_node r a ds) sub l j = ((flat_count ds ≡ 0) × IsSub sub r a 0 l l l) ⊎ StandsAmong ds sub r a l j

    -- it stands behind or in one of the first trees of alternative a of rule r, which derive the span from l to j:
    -- the last of them begins at j less its width
    pub StandsAmong : FlatTrees → Sub → ℕ → ℕ → ℕ → ℕ → Type 0
    StandsAmong no_flat sub r a l j = ⊥
    StandsAmong (flats_and ds d) sub r a l j =
        let k = j - flat_width d in
        IsSub sub r a (flat_count ds + 1) l k j ⊎ (Stands d sub k j ⊎ StandsAmong ds sub r a l k)

  -- it stands in some derivation of the whole text
  abbrev pub Useful : Sub → Type 0
  Useful sub = (d : FlatTree) × IsFlatDerivation plan d × Stands d sub 0 (length plan.text)
