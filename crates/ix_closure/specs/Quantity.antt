-- How often steps are owed, and how many steps facts can bring. It is this project's own.
use Rattle.std.specs.Prelude.{ℕ, ◌+◌, ◌*◌, Bool, false, not, ◌&&◌, ◌==◌, List}
use Rattle.std.specs.List.{count_by}
use Rattle.ix_model.specs.Expansion.Parts.{Parts}
use Rattle.ix_model.specs.Expansion.Slots.{info_at}
use Rattle.ix_cluster.specs.declared.fact.Fact.{Fact}
use Rattle.ix_cluster.specs.declared.fact.Fact.TheVariants as fact
use Rattle.ix_cluster.specs.Banks.{is_descriptor}
use Rattle.ix_cluster.specs.Facts.{same_fact}
use Rattle.ix_cluster.specs.Firsts.{is_at_end}
use Rattle.ix_cluster.specs.Handed.{pair_count}
use Rattle.ix_cluster.specs.LogPlaces.{is_no_claim}
use Rattle.ix_closure.specs.declared.owed.Owed.{Owed}
use Rattle.ix_closure.specs.Follows.{fact_of}

-- whether two steps are the same
abbrev pub same_step : Owed → Owed → Bool
same_step a b = same_fact (fact_of a) (fact_of b)

-- how often the step is owed
abbrev pub times : List Owed → Owed → ℕ
times owed step = count_by (same_step step) owed

-- whether the fact is a claimed descriptor that gives the cluster of r at k the end e
abbrev pub gives : Parts → ℕ → ℕ → ℕ → Fact → Bool
gives plan r k e (fact.Claim s l p) = is_at_end plan s && (((info_at plan s).head == r) && ((l == k) && (p == e)))
gives plan r k e _ = false

-- how many claimed descriptors give the cluster of r at k the end e
abbrev pub givers : Parts → List Fact → ℕ → ℕ → ℕ → ℕ
givers plan facts r k e = count_by (gives plan r k e) facts

-- whether the fact is a claim
abbrev pub is_claim : Fact → Bool
is_claim f = not (is_no_claim f)

-- how many steps recorded facts bring: each descriptor its claim, each claim one step, and each edge and end of one cluster
-- an arrival
abbrev pub weight : List Fact → ℕ
weight facts = count_by is_descriptor facts + count_by is_claim facts + pair_count facts

-- twice the descriptors, and the pairs of an edge and an end of one cluster
abbrev pub step_bound : List Fact → ℕ
step_bound facts = 2 * count_by is_descriptor facts + pair_count facts
