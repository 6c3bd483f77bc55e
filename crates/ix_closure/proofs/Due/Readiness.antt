-- The numbers of a step that is owed are in range.
use Rattle.std.proofs.Common.{ℕ, ◌+◌, Bool, true, false, cond, List, [], Contains, is_some, ap}
use Rattle.ix_model.specs.declared.rules.Sym.TheVariants as sy
use Rattle.ix_model.specs.Closure.Closed as closed
use Rattle.ix_model.specs.Expansion.Parts.{Parts}
use Rattle.ix_model.specs.Expansion.Planned.{IsPlanned}
use Rattle.ix_closure_laws.proofs.ClosedWithin.{desc_within, edge_within, part_within}
use Rattle.ix_model.proofs.SlotReaders.{next_reads}
use Rattle.ix_cluster.specs.declared.cluster.Edge.{Edge as Arc}
use Rattle.ix_cluster.specs.declared.fact.Fact.{Fact}
use Rattle.ix_cluster.specs.declared.fact.Fact.TheVariants as fact
use Rattle.ix_cluster.specs.ClosedFacts.{IsInClosed}
use Rattle.ix_cluster.specs.Facts.{has}
use Rattle.ix_cluster.specs.Lists.{cluster}
use Rattle.ix_cluster.specs.Steps.{edges_in, end_answer}
use Rattle.ix_cluster.proofs.Members.{none_has}
use Rattle.ix_closure.specs.declared.owed.Owed.{Owed}
use Rattle.ix_closure.specs.declared.owed.Owed.TheVariants.{Claim, Edge, End, Arrive}
use Rattle.ix_closure.specs.Follows.{fact_of}
use Rattle.ix_closure.specs.Ready.{HasFurther, HasSlot, IsReady}
use Rattle.ix_closure.proofs.Lists.ClusterLists.{edges_from}
use Rattle.ix_closure.proofs.Due.DueCauses.{edge_next}
use Rattle.ix_closure.proofs.Lists.ListMembers.{all_have}

module _ (plan : Parts) (planned : IsPlanned plan) where
  -- the slot of an edge has a next one
  pub edge_further : (r k s l : ℕ) → closed.Edge plan r k s l → HasFurther plan s
  edge_further r k s l h =
      let next = edge_next plan planned r k s l h in
      let reads = next_reads plan planned s (s + 1) (sy.Rule r next.0) next.1 in
      (reads.0, ap is_some reads.1)

  -- the slot by which the home of a step is told
  pub step_slot : (o : Owed) → IsInClosed plan (fact_of o) → HasSlot plan o
  step_slot (Claim s l p) h = (desc_within plan planned s l p h).0
  step_slot (Edge r k s l) h = tt
  step_slot (End r k e) h = tt
  step_slot (Arrive sub) h = (part_within plan planned sub.slot sub.left sub.pivot sub.right h).0

  -- all numbers of a step
  pub step_ready : (log : List Fact) → ((f : Fact) → Contains log f → IsInClosed plan f) → (o : Owed) → IsInClosed plan (fact_of o) → IsReady plan log o
  step_ready log true_fact (Claim s l p) h = let w = desc_within plan planned s l p h in (w.0, w.2)
  step_ready log true_fact (Edge r k s l) h =
      let next = edge_next plan planned r k s l h in
      let reads = next_reads plan planned s (s + 1) (sy.Rule r next.0) next.1 in
      (reads.0, (edge_within plan planned r k s l h).0, (next.0, reads.1))
  step_ready log true_fact (End r k e) h = all_have (λ (edge : Arc). HasFurther plan edge.slot) (end_answer log r k e) (by (has log (fact.End r k e)))
    where
      by : (b : Bool) (a : Arc) → Contains (cond b [] (edges_in log (cluster r k))) a → HasFurther plan a.slot
      by true a w = absurd (none_has a w)
      by false a w = edge_further r k a.slot a.left (true_fact (fact.Edge r k a.slot a.left) (edges_from (cluster r k) log a w))
  step_ready log true_fact (Arrive sub) h = (part_within plan planned sub.slot sub.left sub.pivot sub.right h).0
