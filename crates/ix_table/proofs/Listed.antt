-- The edges and ends that a log lists for a cluster are facts of the log.
use Rattle.std.proofs.Common.{◌≡◌, ℕ, Bool, true, false, cond, List, [], ◌∷◌, Contains, Option, Some, None, refl, ap, ◌∙◌, subst, inl, inr}
use Rattle.std.specs.List.{filter_map, cons_option}
use Rattle.ix_cluster.specs.declared.cluster.Cluster.{Cluster}
use Rattle.ix_cluster.specs.declared.cluster.Edge.{Edge as Arc}
use Rattle.ix_cluster.specs.declared.fact.Fact.{Fact}
use Rattle.ix_cluster.specs.declared.fact.Fact.TheVariants.{Called, Edge, End, Desc, Part, Claim}
use Rattle.ix_cluster.specs.Lists.{cluster, same_cluster}
use Rattle.ix_cluster.specs.Steps.{edge_of, end_of, edges_in, ends_in}
use Rattle.ix_cluster.proofs.ListLemmas.{same_cluster-true}
use Rattle.ix_cluster.proofs.Members.{first_has, rest_has, either_has, none_has}

module _ {Y : Type 0} where
  listed_from : (f : Fact → Option Y) (log : List Fact) (y : Y) → Contains (filter_map f log) y → (x : Fact) × Contains log x × (f x ≡ Some y)
  listed_from f [] y h = absurd (none_has y h)
  listed_from f (z ∷ zs) y h = by (f z) refl h (λ r. let p = listed_from f zs y r in (p.0, rest_has z zs p.0 p.1, p.2))
    where
      by : (o : Option Y) → f z ≡ o → Contains (filter_map f (z ∷ zs)) y → (Contains (filter_map f zs) y → (x : Fact) × Contains (z ∷ zs) x × (f x ≡ Some y)) → (x : Fact) × Contains (z ∷ zs) x × (f x ≡ Some y)
      by None w r later = later (subst (λ o. Contains (cons_option o (filter_map f zs)) y) w r)
      by (Some v) w r later = elim (either_has v (filter_map f zs) y (subst (λ o. Contains (cons_option o (filter_map f zs)) y) w r)) [ inl e ↦ (z, first_has z zs, w ∙ ap Some e) | inr t ↦ later t ]

module _ (c : Cluster) where
  edge_by : (f : Fact) (a : Arc) → edge_of c f ≡ Some a → f ≡ Edge c.rule c.at a.slot a.left
  edge_by (Called r k) a e = absurd (cc)
  edge_by (End r k x) a e = absurd (cc)
  edge_by (Desc s l p) a e = absurd (cc)
  edge_by (Part sub) a e = absurd (cc)
  edge_by (Claim s l p) a e = absurd (cc)
  edge_by (Edge r k s l) a e = by (same_cluster (cluster r k) c) refl e
    where
      arc : Arc
      arc = record { slot = s; left = l }

      by : (b : Bool) → same_cluster (cluster r k) c ≡ b → cond b (Some arc) None ≡ Some a → Edge r k s l ≡ Edge c.rule c.at a.slot a.left
      by false w x = absurd (cc)
      by true w x =
          let is : arc ≡ a = cc in
          ap (λ (y : Cluster). Edge y.rule y.at s l) (same_cluster-true (cluster r k) c w) ∙ ap (λ (y : Arc). Edge c.rule c.at y.slot y.left) is

  end_by : (f : Fact) (x : ℕ) → end_of c f ≡ Some x → f ≡ End c.rule c.at x
  end_by (Called r k) x e = absurd (cc)
  end_by (Edge r k s l) x e = absurd (cc)
  end_by (Desc s l p) x e = absurd (cc)
  end_by (Part sub) x e = absurd (cc)
  end_by (Claim s l p) x e = absurd (cc)
  end_by (End r k y) x e = by (same_cluster (cluster r k) c) refl e
    where
      by : (b : Bool) → same_cluster (cluster r k) c ≡ b → cond b (Some y) None ≡ Some x → End r k y ≡ End c.rule c.at x
      by false w z = absurd (cc)
      by true w z =
          let is : y ≡ x = cc in
          ap (λ (d : Cluster). End d.rule d.at y) (same_cluster-true (cluster r k) c w) ∙ ap (End c.rule c.at) is

pub edge_listed : (log : List Fact) (r k : ℕ) (arc : Arc) → Contains (edges_in log (cluster r k)) arc → Contains log (Edge r k arc.slot arc.left)
edge_listed log r k arc h = let p = listed_from (edge_of (cluster r k)) log arc h in subst (Contains log) (edge_by (cluster r k) p.0 arc p.2) p.1

pub end_listed : (log : List Fact) (r k e : ℕ) → Contains (ends_in log (cluster r k)) e → Contains log (End r k e)
end_listed log r k e h = let p = listed_from (end_of (cluster r k)) log e h in subst (Contains log) (end_by (cluster r k) p.0 e p.2) p.1
