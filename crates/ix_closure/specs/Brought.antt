-- The steps that a fact brings. Source: the rules of the closure (ix_model, Closed).
use Rattle.std.specs.Prelude.{◌≡◌, ℕ, List, Contains}
use Rattle.ix_model.specs.Expansion.Parts.{Parts}
use Rattle.ix_cluster.specs.declared.fact.Fact.{Fact}
use Rattle.ix_cluster.specs.declared.fact.Fact.TheVariants as fact
use Rattle.ix_cluster.specs.Seen.{Bank}
use Rattle.ix_closure.specs.declared.owed.Owed.{Owed}
use Rattle.ix_closure.specs.declared.owed.Owed.TheVariants.{Claim}
use Rattle.ix_closure.specs.Due.{IsRecorded}
use Rattle.ix_closure.specs.Follows.{fact_of, arrival, FollowsDesc}

-- the fact brings the step: a descriptor its claim, a claimed descriptor what it brings, and an edge its arrivals behind the
-- ends of its cluster that the banks have recorded
abbrev pub IsBroughtBy : Parts → List Bank → Fact → Owed → Type 0
IsBroughtBy plan banks (fact.Desc s l p) step = step ≡ Claim s l p
IsBroughtBy plan banks (fact.Claim s l p) step = (more : List Owed) × FollowsDesc plan s l p more × Contains more step
IsBroughtBy plan banks (fact.Edge r k s l) step = (e : ℕ) × IsRecorded banks (fact.End r k e) × (step ≡ arrival k e (record { slot = s; left = l }))
IsBroughtBy plan banks _ step = ⊥

-- the step is one of these, and what it is to record is not recorded
abbrev pub Lacks : List Bank → (Owed → Type 0) → Owed → Type 0
Lacks banks Steps step = Steps step × ¬ (IsRecorded banks (fact_of step))
