-- The first derivation over the numbered rules, where the first rule is named: the first one within any bound that some derivation keeps.
use Rattle.std.proofs.Common.{◌≡◌, ◌≢◌, sym, ◌⊎◌, ◌≤◌, ℕ, length, None, arith}
use mathlib.Core.Logic.{inl, inr}
use Rattle.ix_model.specs.declared.rules.Kind.TheVariants as kind
use Rattle.ix_model.specs.declared.rules.Sym.TheVariants as sy
use Rattle.ix_model.specs.Expansion.Parts.{Parts}
use Rattle.ix_model.specs.Expansion.Numbered.{kind_at}
use Rattle.ix_model.specs.Expansion.FlatTrees.{FlatTree}
use Rattle.ix_model.specs.Expansion.FlatDerives.{IsFlatDerivation}
use Rattle.ix_model.specs.Expansion.FlatHeights.{flat_height}
use Rattle.ix_model.specs.Expansion.FlatOrder.{FlatBefore, FlatFirst}
use Rattle.ix_model.proofs.Decide.{Answered}
use Rattle.ix_first_laws.specs.Bounded.{IsBestTree}
use Rattle.ix_first_laws.specs.Nested.{IsNested}
use Rattle.ix_first_laws.proofs.FirstTrees.{tree_of, tree_is_best}
use Rattle.ix_first_laws.proofs.FlatAsym.{flat_asym}
use Rattle.ix_first_laws.proofs.NamedTrees.{higher_after}
use Rattle.ix_first_laws.proofs.SameFlat.{same_flat}

module _ (plan : Parts) where
  -- what is first within a bound is first, as all trees above the bound are higher
  pub best_is_first : kind_at plan.rules 0 ≡ kind.Named → (b : ℕ) (d : FlatTree) → IsBestTree plan b (sy.Rule 0 None) 0 (length plan.text) d → FlatFirst plan d
  best_is_first named b d y = (y.within.0, λ z h n. other z n (by_height z h (grind arith)))
    where
      other : (z : FlatTree) → z ≢ d → (z ≡ d) ⊎ FlatBefore plan.rules d z (length plan.text) → FlatBefore plan.rules d z (length plan.text)
      other z n (inl p) = absurd (n p)
      other z n (inr p) = p

      by_height : (z : FlatTree) → IsFlatDerivation plan z → Answered (flat_height plan.rules z ≤ b) → (z ≡ d) ⊎ FlatBefore plan.rules d z (length plan.text)
      by_height z h (inl k) = y.before z (h, k)
      by_height z h (inr k) = higher_after plan 0 0 (length plan.text) named None d z y.within.0 h (grind (arith, k, y.within.1))

  pub first_from : IsNested plan.rules → kind_at plan.rules 0 ≡ kind.Named → (d : FlatTree) → IsFlatDerivation plan d → (e : FlatTree) × FlatFirst plan e
  first_from nested named d h =
      let b : ℕ = flat_height plan.rules d in
      (tree_of plan b (sy.Rule 0 None) 0 (length plan.text), best_is_first named b _ (tree_is_best plan nested b (sy.Rule 0 None) 0 (length plan.text) d (h, omega arith)))

  pub first_is_one : (d e : FlatTree) → FlatFirst plan d → FlatFirst plan e → d ≡ e
  first_is_one d e h k = by_same (same_flat d e)
    where
      by_same : Answered (d ≡ e) → d ≡ e
      by_same (inl p) = p
      by_same (inr n) = absurd (flat_asym plan d e (sy.Rule 0 None) 0 (length plan.text) h.0 k.0 (h.1 e k.0 (λ q. n (sym q))) (k.1 d h.0 n))
