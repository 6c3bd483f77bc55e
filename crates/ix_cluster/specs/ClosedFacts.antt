-- Facts of a bank as facts of the closure. It is this project's own.
use Rattle.ix_model.specs.Expansion.Parts.{Parts}
use Rattle.ix_model.specs.Closure.Closed as closed
use Rattle.ix_cluster.specs.declared.fact.Fact.{Fact}
use Rattle.ix_cluster.specs.declared.fact.Fact.TheVariants.{Called, Edge, End, Desc, Part, Claim}

-- the fact is in the closure; for a claim, its descriptor is
abbrev pub IsInClosed : Parts → Fact → Type 0
IsInClosed plan (Called r k) = closed.Called plan r k
IsInClosed plan (Edge r k s l) = closed.Edge plan r k s l
IsInClosed plan (End r k e) = closed.End plan r k e
IsInClosed plan (Desc s l p) = closed.Desc plan s l p
IsInClosed plan (Part sub) = closed.Part plan sub.slot sub.left sub.pivot sub.right
IsInClosed plan (Claim s l p) = closed.Desc plan s l p
