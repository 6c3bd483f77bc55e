-- The latest descriptor of facts that are the closure stands at the furthest dot.
use Rattle.std.proofs.Common.{◌⊎◌, ◌≡◌, ℕ, List, Contains, inl, inr}
use Rattle.ix_model.specs.Expansion.Parts.{Parts}
use Rattle.ix_cluster.specs.declared.fact.Fact.{Fact}
use Rattle.ix_cluster.specs.declared.fact.Fact.TheVariants.{Desc}
use Rattle.ix_cluster.specs.Laws.{IsLaterOf}
use Rattle.ix_closure.specs.Closure.{IsClosure}
use Rattle.ix_offset_laws.specs.Furthest.{HasDotAt, Furthest}

module _ (plan : Parts) (facts : List Fact) (is : IsClosure plan facts) where
  dot_or_none : (o : ℕ) → (o ≡ 0) ⊎ ((s : ℕ) × (l : ℕ) × Contains facts (Desc s l o)) → HasDotAt plan o ⊎ (o ≡ 0)
  dot_or_none o (inl e) = inr e
  dot_or_none o (inr h) = inl (h.0, h.1, is.closed (Desc h.0 h.1 o) h.2)

  pub furthest_dot : (o : ℕ) → IsLaterOf 0 facts o → Furthest plan o
  furthest_dot o h = (dot_or_none o h.reached, λ p d. h.upper d.0 d.1 p (is.all (Desc d.0 d.1 p) d.2))
