-- What a call of a table is about. It is this project's own.
use Rattle.std.specs.Prelude.{ℕ}
use Rattle.ix_model.specs.Expansion.Parts.{Parts}
use Rattle.ix_cluster.specs.BankSteps.{Call, AddEdge, AddEnd, Arrive, MakeClaim}
use Rattle.ix_cluster.specs.declared.fact.Fact.{Fact}
use Rattle.ix_cluster.specs.declared.fact.Fact.TheVariants.{Edge, End, Part, Claim}
use Rattle.ix_cluster.specs.Homes.{home_of}

-- the fact that the call is to record
abbrev pub fact_for : Call → Fact
fact_for (AddEdge r k s l) = Edge r k s l
fact_for (AddEnd r k e) = End r k e
fact_for (Arrive sub) = Part sub
fact_for (MakeClaim s l p) = Claim s l p

-- the place of its home, among 64
abbrev pub place_for : Parts → Call → ℕ
place_for plan call = home_of plan 64 (fact_for call)
