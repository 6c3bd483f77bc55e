-- What holds of the fields of a bank, as a step changes them.
use Rattle.std.proofs.Common.{◌≡◌, ◌+◌, ℕ, Bool, true, false, not, cond, List, [], length, sym, ap, ◌∙◌, subst}
use Rattle.std.specs.declared.vec.Vec.{Vec}
use Rattle.indexmap.specs.IndexMap.{IndexMap}
use Rattle.ix_model.specs.Expansion.Parts.{Parts}
use Rattle.ix_cluster.specs.declared.cluster.Cluster.{Cluster}
use Rattle.ix_cluster.specs.declared.cluster.Edge.{Edge as Arc}
use Rattle.ix_cluster.specs.declared.fact.Fact.{Fact}
use Rattle.ix_cluster.specs.declared.fact.Fact.TheVariants.{Called, Edge, End}
use Rattle.ix_cluster.specs.Consistent.{EdgesAreCalled, IsConsistent}
use Rattle.ix_cluster.specs.Facts.{has, put}
use Rattle.ix_cluster.specs.Firsts.{firsts_of}
use Rattle.ix_cluster.specs.Lists.{cluster, KeepsLists, PushesAt}
use Rattle.ix_cluster.specs.Steps.{edges_in, ends_in, after_call, after_firsts, after_edge, edge_is_first, edge_answer}
use Rattle.ix_cluster.proofs.CalledEdges.{called-end, called-edge, called-again}
use Rattle.ix_cluster.proofs.Counts.{put-old, was-there, was-new}
use Rattle.ix_cluster.proofs.Handing.{handed-after_end, handed-after_edge}
use Rattle.ix_cluster.proofs.ListLemmas.{PushesAt-after_keeps}
use Rattle.ix_cluster.proofs.Listing.{AreListed-end, AreListed-edge, has-call_edge}

module _ {A B S T : Type 0} (log new : List Fact) (edges : IndexMap Cluster (Vec Arc A) S) (ends : IndexMap Cluster (Vec ℕ B) T) (handed : ℕ) (is : IsConsistent log edges ends handed) where
  -- room is made for an end, or for an edge, and nothing else happens
  pub consistent-ends_kept : (ends' : IndexMap Cluster (Vec ℕ B) T) → new ≡ log → KeepsLists ends ends' → IsConsistent new edges ends' handed
  consistent-ends_kept ends' same keeps =
      subst (λ (facts : List Fact). IsConsistent facts edges ends' handed) (sym same)
      (record { kept = record { listed = record { edges_listed = is.kept.listed.edges_listed; ends_listed = λ c. keeps c ∙ is.kept.listed.ends_listed c }; counted = is.kept.counted }; called = is.called })

  pub consistent-edges_kept : (edges' : IndexMap Cluster (Vec Arc A) S) → new ≡ log → KeepsLists edges edges' → IsConsistent new edges' ends handed
  consistent-edges_kept edges' same keeps =
      subst (λ (facts : List Fact). IsConsistent facts edges' ends handed) (sym same)
      (record { kept = record { listed = record { edges_listed = λ c. keeps c ∙ is.kept.listed.edges_listed c; ends_listed = is.kept.listed.ends_listed }; counted = is.kept.counted }; called = is.called })

  -- a new end
  pub consistent-end : (ends' ends'' : IndexMap Cluster (Vec ℕ B) T) (r k x len : ℕ) → has log (End r k x) ≡ false → new ≡ put log (End r k x) → KeepsLists ends ends' → PushesAt ends' (cluster r k) x ends'' → len ≡ length (edges_in log (cluster r k)) → IsConsistent new edges ends'' (handed + len)
  consistent-end ends' ends'' r k x len none made keeps pushes l = record {
    kept = record {
      listed = AreListed-end log edges ends is.kept.listed new ends'' r k x none made (PushesAt-after_keeps ends ends' ends'' (cluster r k) x keeps pushes);
      counted = handed-after_end log new r k x handed len none made is.kept.counted l;
    };
    called = subst EdgesAreCalled (sym made) (called-end log r k x is.called);
  }

  -- a new edge
  pub consistent-edge : (plan : Parts) (edges' edges'' : IndexMap Cluster (Vec Arc A) S) (r k s l len : ℕ) → has log (Edge r k s l) ≡ false → new ≡ put (after_call plan log r k) (Edge r k s l) → KeepsLists edges edges' → PushesAt edges' (cluster r k) (record { slot = s; left = l }) edges'' → len ≡ length (ends_in log (cluster r k)) → IsConsistent new edges'' ends (handed + len)
  consistent-edge plan edges' edges'' r k s l len none made keeps pushes e = record {
    kept = record {
      listed = AreListed-edge log edges ends is.kept.listed plan new edges'' r k s l (has-call_edge r k s l plan log r k ∙ none) made (PushesAt-after_keeps edges edges' edges'' (cluster r k) (record { slot = s; left = l }) keeps pushes);
      counted = handed-after_edge plan log new r k s l handed len none made is.kept.counted e;
    };
    called = subst EdgesAreCalled (sym made) (called-edge plan log r k is.called s l);
  }

-- an edge is recorded after the call of its cluster; `now` is the log with room, `then` the one after the call, `new` the last
module _ (plan : Parts) (log now then new : List Fact) (r k s l : ℕ) (first added : Bool) (same : now ≡ log) (called : then ≡ after_call plan now r k) (is_first : first ≡ not (has now (Called r k))) (said : added ≡ not (has then (Edge r k s l))) (put_in : new ≡ put then (Edge r k s l)) where
  after_it : then ≡ after_call plan log r k
  after_it = called ∙ ap (λ z. after_call plan z r k) same

  made : new ≡ put (after_call plan log r k) (Edge r k s l)
  made = put_in ∙ ap (λ z. put z (Edge r k s l)) after_it

  first_here : first ≡ not (has log (Called r k))
  first_here = is_first ∙ ap (λ z. not (has z (Called r k))) same

  -- the edge was there
  module _ (old : added ≡ false) (are_called : EdgesAreCalled log) where
    pub edge-there : has log (Edge r k s l) ≡ true
    edge-there = sym (has-call_edge r k s l plan log r k) ∙ was-there (after_call plan log r k) then (Edge r k s l) added after_it said old

    again : has log (Called r k) ≡ true
    again = called-again plan log r k are_called s l edge-there

    pub edge-there_same : new ≡ log
    edge-there_same =
        let nothing : after_call plan log r k ≡ log = ap (λ b. cond b log (after_firsts plan k (firsts_of plan r) (put log (Called r k)))) again in
        made ∙ ap (λ z. put z (Edge r k s l)) nothing ∙ put-old log (Edge r k s l) edge-there

    pub edge-there_first : first ≡ edge_is_first log r k s l
    edge-there_first = first_here ∙ ap not again ∙ sym (ap (λ b. cond b false (not (has log (Called r k)))) edge-there)

    pub edge-there_none : edge_answer log r k s l ≡ []
    edge-there_none = ap (λ b. cond b [] (ends_in log (cluster r k))) edge-there

    pub edge-there_log : new ≡ after_edge plan log r k s l
    edge-there_log = edge-there_same ∙ sym (ap (λ b. cond b log (put (after_call plan log r k) (Edge r k s l))) edge-there)

  -- the edge is new
  module _ (fresh : added ≡ true) where
    pub edge-new : has log (Edge r k s l) ≡ false
    edge-new = sym (has-call_edge r k s l plan log r k) ∙ was-new (after_call plan log r k) then (Edge r k s l) added after_it said fresh

    pub edge-new_made : new ≡ put (after_call plan log r k) (Edge r k s l)
    edge-new_made = made

    pub edge-new_first : first ≡ edge_is_first log r k s l
    edge-new_first = first_here ∙ sym (ap (λ b. cond b false (not (has log (Called r k)))) edge-new)

    pub edge-new_answer : edge_answer log r k s l ≡ ends_in log (cluster r k)
    edge-new_answer = ap (λ b. cond b [] (ends_in log (cluster r k))) edge-new

    pub edge-new_log : new ≡ after_edge plan log r k s l
    edge-new_log = made ∙ sym (ap (λ b. cond b log (put (after_call plan log r k) (Edge r k s l))) edge-new)
