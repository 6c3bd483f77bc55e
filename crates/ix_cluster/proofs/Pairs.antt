-- The pairs of a log, cluster by cluster.
use Rattle.std.proofs.Common.{◌≡◌, ℕ, suc, ◌+◌, ◌*◌, true, false, cond, List, [], ◌∷◌, length, count_by, Contains, Some, None, refl, sym, ap, ◌∙◌, arith, subst, true≢false, ◌⊎◌, inl, inr}
use Rattle.std.proofs.lemmas.Bool.{cases_Bool}
use Rattle.std.specs.List.{cons_option, sum_by, IsDistinct, AllByRecursion}
use Rattle.std.proofs.lemmas.List.Sums.{sum_by-cons}
use Rattle.std.proofs.lemmas.Map.Keys.{IsDistinct-head, IsDistinct-tail}
use Rattle.ix_cluster.specs.declared.cluster.Cluster.{Cluster}
use Rattle.ix_cluster.specs.declared.fact.Fact.{Fact}
use Rattle.ix_cluster.specs.declared.fact.Fact.TheVariants.{Called, Edge, End, Desc, Part, Claim}
use Rattle.ix_cluster.specs.Handed.{meets, pair_count}
use Rattle.ix_cluster.specs.Laws.{edges_times_ends, PairsAreByCluster}
use Rattle.ix_cluster.specs.Lists.{cluster, same_cluster}
use Rattle.ix_cluster.specs.Steps.{edges_in, ends_in}
use Rattle.ix_cluster.proofs.CountBy.{count_none}
use Rattle.ix_cluster.proofs.Handing.{ends-met, edges-met, meets-symm}
use Rattle.ix_cluster.proofs.ListLemmas.{same_cluster-true, same_cluster-refl}
use Rattle.ix_cluster.proofs.Members.{first_has, rest_has, either_has, none_has}

-- ---- sums that differ at one cluster

module _ (f g : Cluster → ℕ) (c : Cluster) (apart : (d : Cluster) → same_cluster c d ≡ false → g d ≡ f d) where
  sum-apart : (ds : List Cluster) → AllByRecursion (λ d. same_cluster c d ≡ false) ds → sum_by g ds ≡ sum_by f ds
  sum-apart [] others = refl
  sum-apart (d ∷ ds) others = omega (arith, sum_by-cons g d ds, sum_by-cons f d ds, apart d others.0, sum-apart ds others.1)

  -- what one cluster has more, the sum has more
  sum-more : (n : ℕ) → g c ≡ f c + n → (ds : List Cluster) → IsDistinct same_cluster ds → Contains ds c → sum_by g ds ≡ sum_by f ds + n
  sum-more n more [] once here = absurd (none_has c here)
  sum-more n more (d ∷ ds) once here = by (cases_Bool (same_cluster c d)) (sum-more n more ds (IsDistinct-tail same_cluster d ds once))
    where
      by : (same_cluster c d ≡ true) ⊎ (same_cluster c d ≡ false) → (Contains ds c → sum_by g ds ≡ sum_by f ds + n) → sum_by g (d ∷ ds) ≡ sum_by f (d ∷ ds) + n
      by (inl e) rest =
          let same = same_cluster-true c d e in
          let at : g d ≡ f d + n = subst (λ z. g z ≡ f z + n) same more in
          let others : AllByRecursion (λ x. same_cluster c x ≡ false) ds = subst (λ z. AllByRecursion (λ x. same_cluster z x ≡ false) ds) (sym same) (IsDistinct-head same_cluster d ds once) in
          omega (arith, sum_by-cons g d ds, sum_by-cons f d ds, at, sum-apart ds others)
      by (inr e) rest = omega (arith, sum_by-cons g d ds, sum_by-cons f d ds, apart d e, rest (there (either_has d ds c here)))
        where
          there : (d ≡ c) ⊎ Contains ds c → Contains ds c
          there (inl s) = absurd (true≢false (sym (same_cluster-refl c) ∙ subst (λ z. same_cluster c z ≡ false) s e))
          there (inr h) = h

-- ---- a further edge or end

one_more : (m n : ℕ) → suc m * n ≡ m * n + n
one_more m n = omega arith

more_one : (m n : ℕ) → m * suc n ≡ m * n + m
more_one m n = omega arith

cluster_apart_edges : (log : List Fact) (r k s l : ℕ) (d : Cluster) → same_cluster (cluster r k) d ≡ false → edges_times_ends (Edge r k s l ∷ log) d ≡ edges_times_ends log d
cluster_apart_edges log r k s l d e = ap (λ b. length (cons_option (cond b (Some (record { slot = s; left = l })) None) (edges_in log d)) * length (ends_in log d)) e

cluster_apart_ends : (log : List Fact) (r k e : ℕ) (d : Cluster) → same_cluster (cluster r k) d ≡ false → edges_times_ends (End r k e ∷ log) d ≡ edges_times_ends log d
cluster_apart_ends log r k e d apart = ap (λ b. length (edges_in log d) * length (cons_option (cond b (Some e) None) (ends_in log d))) apart

edge_more : (log : List Fact) (r k s l : ℕ) → edges_times_ends (Edge r k s l ∷ log) (cluster r k) ≡ edges_times_ends log (cluster r k) + length (ends_in log (cluster r k))
edge_more log r k s l =
    ap (λ b. length (cons_option (cond b (Some (record { slot = s; left = l })) None) (edges_in log (cluster r k))) * length (ends_in log (cluster r k))) (same_cluster-refl (cluster r k)) ∙
    one_more (length (edges_in log (cluster r k))) (length (ends_in log (cluster r k)))

end_more : (log : List Fact) (r k e : ℕ) → edges_times_ends (End r k e ∷ log) (cluster r k) ≡ edges_times_ends log (cluster r k) + length (edges_in log (cluster r k))
end_more log r k e =
    ap (λ b. length (edges_in log (cluster r k)) * length (cons_option (cond b (Some e) None) (ends_in log (cluster r k)))) (same_cluster-refl (cluster r k)) ∙
    more_one (length (edges_in log (cluster r k))) (length (ends_in log (cluster r k)))

-- ---- the law

none-sum : (ds : List Cluster) → sum_by (edges_times_ends []) ds ≡ 0
none-sum [] = refl
none-sum (d ∷ ds) = omega (arith, sum_by-cons (edges_times_ends []) d ds, none-sum ds)

module _ (clusters : List Cluster) (once : IsDistinct same_cluster clusters) where
  pairs_by_cluster : (log : List Fact) → ((r k s l : ℕ) → Contains log (Edge r k s l) → Contains clusters (cluster r k)) → ((r k e : ℕ) → Contains log (End r k e) → Contains clusters (cluster r k)) → pair_count log ≡ sum_by (edges_times_ends log) clusters
  pairs_by_cluster [] edges ends = sym (none-sum clusters)
  pairs_by_cluster (Called r' k' ∷ log) edges ends =
      omega (arith, count_none (meets (Called r' k')) log (λ g _. refl), pairs_by_cluster log (λ r k s l h. edges r k s l (rest_has (Called r' k') log _ h)) (λ r k e h. ends r k e (rest_has (Called r' k') log _ h)))
  pairs_by_cluster (Edge r' k' s' l' ∷ log) edges ends =
      let at = cluster r' k' in
      let met = (λ i. count_by (λ g. meets-symm (Edge r' k' s' l') g i) log) ∙ ends-met log r' k' s' l' in
      let more : edges_times_ends (Edge r' k' s' l' ∷ log) at ≡ edges_times_ends log at + length (ends_in log at) = edge_more log r' k' s' l' in
      let sum = sum-more (edges_times_ends log) (edges_times_ends (Edge r' k' s' l' ∷ log)) at (cluster_apart_edges log r' k' s' l') (length (ends_in log at)) more clusters once (edges r' k' s' l' (first_has (Edge r' k' s' l') log)) in
      omega (arith, met, sum, pairs_by_cluster log (λ r k s l h. edges r k s l (rest_has (Edge r' k' s' l') log _ h)) (λ r k e h. ends r k e (rest_has (Edge r' k' s' l') log _ h)))
  pairs_by_cluster (End r' k' e' ∷ log) edges ends =
      let at = cluster r' k' in
      let met = (λ i. count_by (λ g. meets-symm (End r' k' e') g i) log) ∙ edges-met log r' k' e' in
      let more : edges_times_ends (End r' k' e' ∷ log) at ≡ edges_times_ends log at + length (edges_in log at) = end_more log r' k' e' in
      let sum = sum-more (edges_times_ends log) (edges_times_ends (End r' k' e' ∷ log)) at (cluster_apart_ends log r' k' e') (length (edges_in log at)) more clusters once (ends r' k' e' (first_has (End r' k' e') log)) in
      omega (arith, met, sum, pairs_by_cluster log (λ r k s l h. edges r k s l (rest_has (End r' k' e') log _ h)) (λ r k e h. ends r k e (rest_has (End r' k' e') log _ h)))
  pairs_by_cluster (Desc s' l' p' ∷ log) edges ends =
      omega (arith, count_none (meets (Desc s' l' p')) log (λ g _. refl), pairs_by_cluster log (λ r k s l h. edges r k s l (rest_has (Desc s' l' p') log _ h)) (λ r k e h. ends r k e (rest_has (Desc s' l' p') log _ h)))
  pairs_by_cluster (Part sub ∷ log) edges ends =
      omega (arith, count_none (meets (Part sub)) log (λ g _. refl), pairs_by_cluster log (λ r k s l h. edges r k s l (rest_has (Part sub) log _ h)) (λ r k e h. ends r k e (rest_has (Part sub) log _ h)))
  pairs_by_cluster (Claim s' l' p' ∷ log) edges ends =
      omega (arith, count_none (meets (Claim s' l' p')) log (λ g _. refl), pairs_by_cluster log (λ r k s l h. edges r k s l (rest_has (Claim s' l' p') log _ h)) (λ r k e h. ends r k e (rest_has (Claim s' l' p') log _ h)))

pub pairs_are_by_cluster : PairsAreByCluster
pairs_are_by_cluster log clusters of = pairs_by_cluster clusters of.once log of.edges of.ends
