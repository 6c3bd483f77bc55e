-- The descriptors among the facts of a closure, each once, and how many they are.
use Rattle.std.proofs.Common.{◌≡◌, ℕ, zero, suc, List, [], ◌∷◌, length, count_by, Contains, Option, Some, None, slice_get, refl, sym, ap, ◌∙◌, subst, arith}
use Rattle.std.specs.List.{filter_map}
use Rattle.ix_model.specs.Expansion.Parts.{Parts}
use Rattle.ix_model.specs.Closure.Closed as closed
use Rattle.ix_cluster.specs.declared.fact.Fact.{Fact}
use Rattle.ix_cluster.specs.declared.fact.Fact.TheVariants.{Called, Edge, End, Desc, Part, Claim}
use Rattle.ix_cluster.specs.Banks.{is_descriptor}
use Rattle.ix_cluster.specs.Facts.{same_fact}
use Rattle.ix_cluster.proofs.CountBy.{count_cons}
use Rattle.ix_cluster.proofs.FactLemmas.{same_fact-refl}
use Rattle.ix_cluster.proofs.Members.{nth_has}
use Rattle.ix_closure.specs.Closure.{IsClosure}
use Rattle.ix_closure.proofs.Lists.ListMembers.{place_in, filter_has, filter_from}
use Rattle.ix_closure.proofs.Lists.OnceEach.{IsOnceEach, once_distinct, once_filter}
use Rattle.ix_model.specs.Closure.Counting.{Lists, HasCount}
use Rattle.ix_model.specs.Closure.Figures.{Dot}

module _ {X : Type 0} where
  -- where each stands once, no two places have the same
  pub places_once : (xs : List X) → IsOnceEach xs → (m n : ℕ) (x : X) → slice_get xs m ≡ Some x → slice_get xs n ≡ Some x → m ≡ n
  unfolding IsOnceEach
  places_once [] h m n x e o = absurd (cc e)
  places_once (y ∷ ys) h zero zero x e o = refl
  places_once (y ∷ ys) h zero (suc n) x e o = let same : y ≡ x = cc e in absurd (h.0 (subst (Contains ys) (sym same) (nth_has ys n x o)))
  places_once (y ∷ ys) h (suc m) zero x e o = let same : y ≡ x = cc o in absurd (h.0 (subst (Contains ys) (sym same) (nth_has ys m x e)))
  places_once (y ∷ ys) h (suc m) (suc n) x e o = ap suc (places_once ys h.1 m n x e o)

-- the descriptor that a fact is
dot_of : Fact → Option Dot
dot_of (Desc s l p) = Some (record { slot = s; left = l; pos = p })
dot_of _ = None

is_dot : (f : Fact) (d : Dot) → dot_of f ≡ Some d → f ≡ Desc d.slot d.left d.pos
unfolding dot_of
is_dot (Desc s l p) d e = let q : ◌≡◌ {A = Dot} (record { slot = s; left = l; pos = p }) d = cc e in ap (λ (z : Dot). Desc z.slot z.left z.pos) q
is_dot (Called r k) d e = absurd (cc e)
is_dot (Edge r k s l) d e = absurd (cc e)
is_dot (End r k p) d e = absurd (cc e)
is_dot (Part sub) d e = absurd (cc e)
is_dot (Claim s l p) d e = absurd (cc e)

-- as many as are counted
dots_counted : (facts : List Fact) → count_by is_descriptor facts ≡ length (filter_map dot_of facts)
unfolding dot_of
dots_counted [] = refl
dots_counted (Desc s l p ∷ facts) = omega (arith, count_cons is_descriptor (Desc s l p) facts, dots_counted facts)
dots_counted (Called r k ∷ facts) = omega (arith, count_cons is_descriptor (Called r k) facts, dots_counted facts)
dots_counted (Edge r k s l ∷ facts) = omega (arith, count_cons is_descriptor (Edge r k s l) facts, dots_counted facts)
dots_counted (End r k p ∷ facts) = omega (arith, count_cons is_descriptor (End r k p) facts, dots_counted facts)
dots_counted (Part sub ∷ facts) = omega (arith, count_cons is_descriptor (Part sub) facts, dots_counted facts)
dots_counted (Claim s l p ∷ facts) = omega (arith, count_cons is_descriptor (Claim s l p) facts, dots_counted facts)

module _ (plan : Parts) (facts : List Fact) (is : IsClosure plan facts) where
  dots_listed : Lists (λ (d : Dot). closed.Desc plan d.slot d.left d.pos) (filter_map dot_of facts)
  unfolding dot_of
  dots_listed = record {
    sound = λ n d e.
        let f = filter_from dot_of facts d (nth_has (filter_map dot_of facts) n d e) in
        is.closed (Desc d.slot d.left d.pos) (subst (Contains facts) (is_dot f.0 d f.2) f.1);
    whole = λ d h. place_in (filter_map dot_of facts) d (filter_has dot_of facts (Desc d.slot d.left d.pos) d (is.all (Desc d.slot d.left d.pos) h) refl);
    once = places_once (filter_map dot_of facts) (once_filter dot_of (λ a b d e o. is_dot a d e ∙ sym (is_dot b d o)) facts (once_distinct same_fact same_fact-refl facts is.once));
  }

  -- the descriptors of the closure are as many as are counted among the facts
  pub descriptors_counted : (n : ℕ) → n ≡ count_by is_descriptor facts → HasCount (λ (d : Dot). closed.Desc plan d.slot d.left d.pos) n
  descriptors_counted n e = (filter_map dot_of facts, dots_listed, e ∙ dots_counted facts)
