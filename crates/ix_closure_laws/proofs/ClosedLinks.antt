-- What a call and a return edge come from.
use Rattle.std.proofs.Common.{◌≡◌, refl, sym, subst, ◌⊎◌, ℕ, Option}
use mathlib.Core.Logic.{inl, inr}
use Rattle.ix_model.specs.declared.grammar.Mark.{Mark}
use Rattle.ix_model.specs.declared.rules.Sym.TheVariants as sy
use Rattle.ix_model.specs.Expansion.Parts.{Parts}
use Rattle.ix_model.specs.Expansion.SlotPlaces.{HasNext}
use Rattle.ix_model.specs.Closure.Closed.{Called, start, by_edge, Desc, Edge, waiting}

module _ (plan : Parts) where
  pub called_from : (q p : ℕ) → Called plan q p → ((q ≡ 0) × (p ≡ 0)) ⊎ ((s : ℕ) × (l : ℕ) × Edge plan q p s l)
  called_from q p start = inl (refl, refl)
  called_from q p (by_edge rule at slot left e) = inr (slot, left, e)

  pub called_by : (q p : ℕ) → ((q ≡ 0) × (p ≡ 0)) ⊎ ((s : ℕ) × (l : ℕ) × Edge plan q p s l) → Called plan q p
  called_by q p (inl h) = subst (λ (z : ℕ). Called plan q z) (sym h.1) (subst (λ (z : ℕ). Called plan z 0) (sym h.0) start)
  called_by q p (inr h) = by_edge q p h.0 h.1 h.2

  pub edge_from : (q p s l : ℕ) → Edge plan q p s l → Desc plan s l p × ((after : ℕ) × (mark : Option Mark) × HasNext plan s after (sy.Rule q mark))
  edge_from q p s l (waiting slot left at after rule mark d h) = (d, (after, mark, h))

  pub edge_by : (q p s l : ℕ) → Desc plan s l p × ((after : ℕ) × (mark : Option Mark) × HasNext plan s after (sy.Rule q mark)) → Edge plan q p s l
  edge_by q p s l h = waiting s l p h.1.0 q h.1.1 h.0 h.1.2
