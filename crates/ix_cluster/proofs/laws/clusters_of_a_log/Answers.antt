use Rattle.std.proofs.Common.{[], ◌∷◌, List, Contains, refl, ap, true≢false, arith}
use Rattle.std.specs.List.{IsDistinct}
use Rattle.std.proofs.lemmas.Map.Keys.{IsDistinct-head}
use Rattle.ix_cluster.specs.declared.cluster.Cluster.{Cluster}
use Rattle.ix_cluster.specs.declared.fact.Fact.{Fact}
use Rattle.ix_cluster.specs.declared.fact.Fact.TheVariants.{Edge, End}
use Rattle.ix_cluster.specs.Lists.{cluster, same_cluster}
use Rattle.ix_cluster.proofs.Members.{one_has, first_has, rest_has, each_has, none_has}
use Rattle.ix_cluster.proofs.laws.clusters_of_a_log.Goals as goal

abbrev them : List Cluster
them = cluster 0 0 ∷ cluster 0 1 ∷ []

abbrev log : List Fact
log = Edge 0 0 2 0 ∷ Edge 0 0 3 0 ∷ End 0 0 1 ∷ End 0 1 1 ∷ []

-- the cluster of an edge or an end is one of them
abbrev IsOfThem : Fact → Type 0
IsOfThem (Edge r k s l) = Contains them (cluster r k)
IsOfThem (End r k e) = Contains them (cluster r k)
IsOfThem f = Unit {0}

each_once : IsDistinct same_cluster them
unfolding IsDistinct
each_once = ((refl, tt), (tt, tt))

first_of_them : Contains them (cluster 0 0)
first_of_them = first_has (cluster 0 0) (cluster 0 1 ∷ [])

second_of_them : Contains them (cluster 0 1)
second_of_them = rest_has (cluster 0 0) (cluster 0 1 ∷ []) (cluster 0 1) (first_has (cluster 0 1) [])

all_of_them : (f : Fact) → Contains log f → IsOfThem f
all_of_them =
    each_has IsOfThem (Edge 0 0 2 0) (Edge 0 0 3 0 ∷ End 0 0 1 ∷ End 0 1 1 ∷ []) first_of_them
    (each_has IsOfThem (Edge 0 0 3 0) (End 0 0 1 ∷ End 0 1 1 ∷ []) first_of_them
    (each_has IsOfThem (End 0 0 1) (End 0 1 1 ∷ []) first_of_them (each_has IsOfThem (End 0 1 1) [] second_of_them (λ f h. absurd (none_has f h)))))

pub returns-clause-clusters : goal.returns-clause-clusters
returns-clause-clusters c = record { once = each_once; edges = λ r k s l h. all_of_them (Edge r k s l) h; ends = λ r k e h. all_of_them (End r k e) h }

pub returns-clause-missing : goal.returns-clause-missing
returns-clause-missing c = λ h. let e = one_has (cluster 0 0) (cluster 0 1) (h.ends 0 1 1 (first_has (End 0 1 1) [])) in omega (arith, ap (λ (z : Cluster). z.at) e)

pub returns-clause-twice : goal.returns-clause-twice
returns-clause-twice c = λ h. let apart = IsDistinct-head same_cluster (cluster 0 0) (cluster 0 0 ∷ []) h.once in true≢false apart.0
