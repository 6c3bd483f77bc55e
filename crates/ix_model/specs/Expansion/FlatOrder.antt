-- The order of the trees of one symbol over one span, and the first derivation over the numbered rules: those of the written trees that they
-- stand for.
-- Trees keep no starts: `end` is where both trees end, so the last part of a tree starts at `end` less its width.
use Rattle.std.specs.Prelude.{◌≡◌, ◌≢◌, ◌⊎◌, ℕ, ◌-◌, ◌<◌, length}
use Rattle.ix_model.specs.declared.rules.Kind.{Kind}
use Rattle.ix_model.specs.declared.rules.Kind.TheVariants as kind
use Rattle.ix_model.specs.declared.rules.Rules.{Rules}
use Rattle.ix_model.specs.Expansion.Parts.{Parts}
use Rattle.ix_model.specs.Expansion.FlatTrees.{FlatTree, flat_node, FlatTrees, flats_and, flat_width}
use Rattle.ix_model.specs.Expansion.FlatDerives.{IsFlatDerivation}
use Rattle.ix_model.specs.Expansion.FlatHeights.{flat_heights}
use Rattle.ix_model.specs.Expansion.Numbered.{kind_at}

-- of two nodes of a named rule the lesser height is first; heights say nothing of helpers
abbrev pub NodeBefore : Kind → ℕ → ℕ → Type 0 → Type 0
NodeBefore kind.Named m n rest = (m < n) ⊎ (m ≡ n) × rest
NodeBefore _ m n rest = rest

module _ (rules : Rules) where
  abbrev mutual
    -- then the earlier alternative, and then the sequences
    pub FlatBefore : FlatTree → FlatTree → ℕ → Type 0
    FlatBefore (flat_node r a ds) (flat_node q c es) end =
        NodeBefore (kind_at rules r) (flat_heights rules ds) (flat_heights rules es) ((a < c) ⊎ (a ≡ c) × FlatsBefore ds es end)
    FlatBefore _ _ end = ⊥

    -- of sequences: the lesser start of the last tree, then the trees before it, then the last
    pub FlatsBefore : FlatTrees → FlatTrees → ℕ → Type 0
    FlatsBefore (flats_and ds d) (flats_and es e) end =
        (end - flat_width d < end - flat_width e)
        ⊎ (flat_width d ≡ flat_width e) × (FlatsBefore ds es (end - flat_width d) ⊎ (ds ≡ es) × FlatBefore d e end)
    FlatsBefore _ _ end = ⊥

-- the tree is the derivation of the text that is before every other one
abbrev pub FlatFirst : Parts → FlatTree → Type 0
FlatFirst plan d = IsFlatDerivation plan d × ((e : FlatTree) → IsFlatDerivation plan e → e ≢ d → FlatBefore plan.rules d e (length plan.text))
