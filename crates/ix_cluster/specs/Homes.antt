-- The bank that a fact belongs to. It is this project's own.
use Rattle.std.specs.Prelude.{ℕ, ◌+◌, ◌%◌}
use Rattle.ix_model.specs.Expansion.Parts.{Parts}
use Rattle.ix_model.specs.Expansion.Slots.{info_at}
use Rattle.ix_cluster.specs.declared.fact.Fact.{Fact}
use Rattle.ix_cluster.specs.declared.fact.Fact.TheVariants.{Called, Edge, End, Desc, Part, Claim}

-- the bank, of so many, that the cluster of the rule at the position belongs to
abbrev pub home : ℕ → ℕ → ℕ → ℕ
home rule at count = (rule + at) % count

-- the bank that the fact belongs to, by its cluster; a descriptor's is its slot's rule at its left end
abbrev pub home_of : Parts → ℕ → Fact → ℕ
home_of plan count (Called r k) = home r k count
home_of plan count (Edge r k s l) = home r k count
home_of plan count (End r k e) = home r k count
home_of plan count (Desc s l p) = home (info_at plan s).head l count
home_of plan count (Part sub) = home (info_at plan sub.slot).head sub.left count
home_of plan count (Claim s l p) = home (info_at plan s).head l count
