-- The order of the trees of one term over one span, and the first derivation. It is this project's own.
-- Trees keep no starts: `end` is where both trees end, so the last part of a tree starts at `end` less its width.
use Rattle.std.specs.Prelude.{◌≡◌, ◌≢◌, ◌⊎◌, ℕ, ◌-◌, ◌<◌, List, length}
use Rattle.ix_model.specs.declared.grammar.Grammar.{Grammar}
use Rattle.ix_model.specs.Derivations.Trees.{Tree, node, group, present, absent, no_item, list, Trees, and, Repeated, one, again, again_after, width}
use Rattle.ix_model.specs.Derivations.Heights.{heights}
use Rattle.ix_model.specs.Derivations.Derives.{IsDerivation}

abbrev mutual
  -- the lesser height is first; then the earlier alternative; an option that is there, and a repetition without
  -- an item, are before their rivals
  pub Before : Tree → Tree → ℕ → Type 0
  Before (node r a ds) (node q b es) end =
      (heights ds < heights es) ⊎ (heights ds ≡ heights es) × ((a < b) ⊎ (a ≡ b) × AllBefore ds es end)
  Before (group a ds) (group b es) end = (a < b) ⊎ (a ≡ b) × AllBefore ds es end
  Before (present d) (present e) end = Before d e end
  Before (present d) absent end = Unit {0}
  Before no_item (list es) end = Unit {0}
  Before (list ds) (list es) end = RepeatedBefore ds es end
  Before _ _ end = ⊥

  -- of sequences: the lesser start of the last tree, then the trees before it, then the last
  pub AllBefore : Trees → Trees → ℕ → Type 0
  AllBefore (and ds d) (and es e) end =
      (end - width d < end - width e) ⊎ (width d ≡ width e) × (AllBefore ds es (end - width d) ⊎ (ds ≡ es) × Before d e end)
  AllBefore _ _ end = ⊥

  -- of lists: one item is before several; several are compared as the list before, the separator and the last item
  pub RepeatedBefore : Repeated → Repeated → ℕ → Type 0
  RepeatedBefore (one d) (one e) end = Before d e end
  RepeatedBefore (one d) (again es e) end = Unit {0}
  RepeatedBefore (one d) (again_after es p e) end = Unit {0}
  RepeatedBefore (again ds d) (again es e) end =
      (end - width d < end - width e) ⊎ (width d ≡ width e) × (RepeatedBefore ds es (end - width d) ⊎ (ds ≡ es) × Before d e end)
  RepeatedBefore (again_after ds p d) (again_after es q e) end =
      (end - width d < end - width e)
      ⊎ (width d ≡ width e) × ((end - width d - width p < end - width d - width q)
      ⊎ (width p ≡ width q) × (RepeatedBefore ds es (end - width d - width p)
      ⊎ (ds ≡ es) × (Before p q (end - width d) ⊎ (p ≡ q) × Before d e end)))
  RepeatedBefore _ _ end = ⊥

-- the tree is the derivation that is before every other one
abbrev pub First : Grammar → List ℕ → Tree → Type 0
First g s d = IsDerivation g s d × ((e : Tree) → IsDerivation g s e → e ≢ d → Before d e (length s))
