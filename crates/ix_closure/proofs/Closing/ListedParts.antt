-- The binary subtrees among the facts of a closure.
use Rattle.std.proofs.Common.{◌≡◌, refl, subst, List, Some, Contains}
use Rattle.std.specs.List.{filter_map}
use Rattle.ix_model.specs.declared.sub.Sub.{Sub}
use Rattle.ix_model.specs.Expansion.Parts.{Parts}
use Rattle.ix_model.specs.Closure.Closed as closed
use Rattle.ix_closure_laws.specs.PartLists.{AreParts}
use Rattle.ix_cluster.specs.declared.fact.Fact.{Fact}
use Rattle.ix_cluster.specs.declared.fact.Fact.TheVariants.{Called, Edge, End, Desc, Part, Claim}
use Rattle.ix_cluster.specs.Banks.{recorded_sub}
use Rattle.ix_closure.specs.Closure.{IsClosure}
use Rattle.ix_closure.proofs.Lists.ListMembers.{filter_has, filter_from}

-- only a subtree records one
is_part : (f : Fact) (sub : Sub) → recorded_sub f ≡ Some sub → f ≡ Part sub
is_part (Part s) sub e = let q : s ≡ sub = cc e in cc q
is_part (Called r k) sub e = absurd (cc e)
is_part (Edge r k s l) sub e = absurd (cc e)
is_part (End r k e) sub h = absurd (cc h)
is_part (Desc s l p) sub e = absurd (cc e)
is_part (Claim s l p) sub e = absurd (cc e)

pub lists_parts : (plan : Parts) (facts : List Fact) → IsClosure plan facts → AreParts plan (filter_map recorded_sub facts)
lists_parts plan facts is sub = (there, λ part. filter_has recorded_sub facts (Part sub) sub (is.all (Part sub) part) refl)
  where
    there : Contains (filter_map recorded_sub facts) sub → closed.Part plan sub.slot sub.left sub.pivot sub.right
    there h =
        let f = filter_from recorded_sub facts sub h in
        is.closed (Part sub) (subst (Contains facts) (is_part f.0 sub f.2) f.1)
