-- The edges and ends that a log lists for a cluster are those of the log, each once.
use Rattle.std.proofs.Common.{◌≡◌, ℕ, Bool, true, false, cond, List, Contains, Some, None, refl, sym, ap, ◌∙◌, subst, rules}
use Rattle.std.specs.List.{IsDistinct}
use Rattle.ix_cluster.specs.declared.cluster.Cluster.{Cluster}
use Rattle.ix_cluster.specs.declared.cluster.Edge.{Edge as Arc}
use Rattle.ix_cluster.specs.declared.fact.Fact.{Fact}
use Rattle.ix_cluster.specs.declared.fact.Fact.TheVariants.{Called, Edge, End, Desc, Part, Claim}
use Rattle.ix_cluster.specs.Facts.{same_fact}
use Rattle.ix_cluster.specs.Lists.{cluster, same_cluster}
use Rattle.ix_cluster.specs.Steps.{edge_of, end_of, edges_in, ends_in}
use Rattle.ix_cluster.proofs.FactLemmas.{same_fact-refl}
use Rattle.ix_cluster.proofs.ListLemmas.{same_cluster-true}
use Rattle.ix_closure.proofs.Lists.ListMembers.{filter_has, filter_from}
use Rattle.ix_closure.proofs.Lists.OnceEach.{IsOnceEach, once_distinct, once_filter}

module _ (c : Cluster) where
  -- a fact that gives the cluster an edge is that edge
  edge_by : (f : Fact) (a : Arc) → edge_of c f ≡ Some a → f ≡ Edge c.rule c.at a.slot a.left
  edge_by (Called r k) a e = absurd (cc)
  edge_by (End r k x) a e = absurd (cc)
  edge_by (Desc s l p) a e = absurd (cc)
  edge_by (Part sub) a e = absurd (cc)
  edge_by (Claim s l p) a e = absurd (cc)
  edge_by (Edge r k s l) a e = by (same_cluster (cluster r k) c) refl e
    where
      arc : Arc
      arc = record { slot = s; left = l }

      by : (b : Bool) → same_cluster (cluster r k) c ≡ b → cond b (Some arc) None ≡ Some a → Edge r k s l ≡ Edge c.rule c.at a.slot a.left
      by false w x = absurd (cc)
      by true w x =
          let is : arc ≡ a = cc in
          ap (λ (y : Cluster). Edge y.rule y.at s l) (same_cluster-true (cluster r k) c w) ∙ ap (λ (y : Arc). Edge c.rule c.at y.slot y.left) is

  -- and a fact that gives it an end is that end
  end_by : (f : Fact) (x : ℕ) → end_of c f ≡ Some x → f ≡ End c.rule c.at x
  end_by (Called r k) x e = absurd (cc)
  end_by (Edge r k s l) x e = absurd (cc)
  end_by (Desc s l p) x e = absurd (cc)
  end_by (Part sub) x e = absurd (cc)
  end_by (Claim s l p) x e = absurd (cc)
  end_by (End r k y) x e = by (same_cluster (cluster r k) c) refl e
    where
      by : (b : Bool) → same_cluster (cluster r k) c ≡ b → cond b (Some y) None ≡ Some x → End r k y ≡ End c.rule c.at x
      by false w z = absurd (cc)
      by true w z =
          let is : y ≡ x = cc in
          ap (λ (d : Cluster). End d.rule d.at y) (same_cluster-true (cluster r k) c w) ∙ ap (End c.rule c.at) is

  itself : same_cluster c c ≡ true
  itself = search rules

  module _ (log : List Fact) where
    -- what the log has is listed
    pub edges_have : (a : Arc) → Contains log (Edge c.rule c.at a.slot a.left) → Contains (edges_in log c) a
    edges_have a h = filter_has (edge_of c) log (Edge c.rule c.at a.slot a.left) a h (ap (λ b. cond b (Some a) None) itself)

    pub ends_have : (x : ℕ) → Contains log (End c.rule c.at x) → Contains (ends_in log c) x
    ends_have x h = filter_has (end_of c) log (End c.rule c.at x) x h (ap (λ b. cond b (Some x) None) itself)

    -- what is listed the log has
    pub edges_from : (a : Arc) → Contains (edges_in log c) a → Contains log (Edge c.rule c.at a.slot a.left)
    edges_from a h = let p = filter_from (edge_of c) log a h in subst (Contains log) (edge_by p.0 a p.2) p.1

    pub ends_from : (x : ℕ) → Contains (ends_in log c) x → Contains log (End c.rule c.at x)
    ends_from x h = let p = filter_from (end_of c) log x h in subst (Contains log) (end_by p.0 x p.2) p.1

    -- where the log has each fact once, each is listed once
    module _ (once : IsDistinct same_fact log) where
      pub edges_once : IsOnceEach (edges_in log c)
      edges_once = once_filter (edge_of c) (λ f g a h i. edge_by f a h ∙ sym (edge_by g a i)) log (once_distinct same_fact same_fact-refl log once)

      pub ends_once : IsOnceEach (ends_in log c)
      ends_once = once_filter (end_of c) (λ f g x h i. end_by f x h ∙ sym (end_by g x i)) log (once_distinct same_fact same_fact-refl log once)
