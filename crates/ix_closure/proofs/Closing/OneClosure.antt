-- Two lists of the closure have the same facts, and as many.
use Rattle.std.proofs.Common.{◌≡◌, ◌≤◌, ◌↔◌, true, List, Contains, length, arith}
use Rattle.ix_model.specs.Expansion.Parts.{Parts}
use Rattle.ix_cluster.specs.declared.fact.Fact.{Fact}
use Rattle.ix_closure.specs.Closure.{IsClosure}
use Rattle.ix_closure.proofs.Lists.ListCounts.{count_all}
use Rattle.ix_closure.proofs.Lists.Sublists.{fewer}

module _ (plan : Parts) where
  no_longer : (a b : List Fact) → IsClosure plan a → IsClosure plan b → length a ≤ length b
  no_longer a b v w = omega (arith, count_all a, count_all b, fewer (λ _. true) a b v.once (λ f h _. w.all f (v.closed f h)))

  pub closure_once : (a b : List Fact) → IsClosure plan a → IsClosure plan b → ((f : Fact) → Contains a f ↔ Contains b f) × (length a ≡ length b)
  closure_once a b v w = ((λ f. (λ h. w.all f (v.closed f h), λ h. v.all f (w.closed f h))), omega (arith, no_longer a b v w, no_longer b a w v))
