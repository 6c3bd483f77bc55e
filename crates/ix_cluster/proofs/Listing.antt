-- the edges and ends of a log, as facts are recorded
use Rattle.std.proofs.Common.{◌≡◌, ℕ, Bool, true, false, cond, List, [], ◌∷◌, ◌++◌, Option, Some, None, refl, sym, ap, ◌∙◌, arith}
use Rattle.std.specs.List.{filter_map, cons_option}
use Rattle.std.specs.declared.vec.Vec.{Vec}
use Rattle.std.proofs.lemmas.List.{append-nil}
use Rattle.std.proofs.lemmas.List.Folds.{list_any-append}
use Rattle.std.proofs.lemmas.List.Elements.{filter_map-append}
use Rattle.indexmap.specs.IndexMap.{IndexMap}
use Rattle.ix_model.specs.Expansion.Parts.{Parts}
use Rattle.ix_cluster.specs.declared.cluster.Cluster.{Cluster}
use Rattle.ix_cluster.specs.declared.cluster.Edge.{Edge as Arc}
use Rattle.ix_model.specs.declared.sub.Sub.{Sub}
use Rattle.ix_cluster.specs.declared.fact.Fact.{Fact}
use Rattle.ix_cluster.specs.declared.fact.Fact.TheVariants.{Called, Edge, End, Desc, Part, Claim}
use Rattle.ix_cluster.specs.Facts.{same_fact, has, put}
use Rattle.ix_cluster.specs.Lists.{cluster, same_cluster, list_at, PushesAt}
use Rattle.ix_cluster.specs.Listed.{AreListed}
use Rattle.ix_cluster.specs.Steps.{empty_sub, edge_of, end_of, edges_in, ends_in, after_call, after_claim, after_arrival}
use Rattle.ix_cluster.proofs.Counts.{put-new}
use Rattle.ix_cluster.proofs.Recording.{put_both, claim_both, same_after_call}

module _ {X : Type 0} (g : Fact → Option X) where
  pub kept-put : (log : List Fact) (f : Fact) → g f ≡ None → filter_map g (put log f) ≡ filter_map g log
  kept-put log f none =
      put_both (λ new. filter_map g new ≡ filter_map g log) log f (λ _. refl)
      (λ _. filter_map-append g log (f ∷ []) ∙ ap (λ o. filter_map g log ++ cons_option o []) none ∙ append-nil (filter_map g log))

  pub pushed-put : (log : List Fact) (f : Fact) → has log f ≡ false → filter_map g (put log f) ≡ filter_map g log ++ cons_option (g f) []
  pushed-put log f e = ap (filter_map g) (put-new log f e) ∙ filter_map-append g log (f ∷ [])

  module _ (called : (r k : ℕ) → g (Called r k) ≡ None) (desc : (s l p : ℕ) → g (Desc s l p) ≡ None) (part : (sub : Sub) → g (Part sub) ≡ None) (claimed : (s l p : ℕ) → g (Claim s l p) ≡ None) where
    pub kept-call : (plan : Parts) (log : List Fact) (r k : ℕ) → filter_map g (after_call plan log r k) ≡ filter_map g log
    kept-call plan log r k = same_after_call (filter_map g) plan r k (λ l s. kept-put l (Desc s k k) (desc s k k)) (λ l s. kept-put l (Part (empty_sub s k)) (part _)) (λ l. kept-put l (Called r k) (called r k)) log

    pub kept-claim : (log : List Fact) (s l p : ℕ) → filter_map g (after_claim log s l p) ≡ filter_map g log
    kept-claim log s l p = claim_both (λ new. filter_map g new ≡ filter_map g log) log s l p (λ _. kept-put log (Claim s l p) (claimed s l p)) refl

    pub kept-arrive : (log : List Fact) (sub : Sub) → filter_map g (after_arrival log sub) ≡ filter_map g log
    kept-arrive log sub = kept-put (put log (Part sub)) (Desc sub.slot sub.left sub.right) (desc _ _ _) ∙ kept-put log (Part sub) (part sub)

module _ {A B S T : Type 0} (log : List Fact) (edges : IndexMap Cluster (Vec Arc A) S) (ends : IndexMap Cluster (Vec ℕ B) T) (is : AreListed log edges ends) where
  pub AreListed-claim : (new : List Fact) (s l p : ℕ) → new ≡ after_claim log s l p → AreListed new edges ends
  AreListed-claim new s l p e = record {
    edges_listed = λ c. rw e (is.edges_listed c ∙ sym (kept-claim (edge_of c) (λ _ _. refl) (λ _ _ _. refl) (λ _. refl) (λ _ _ _. refl) log s l p));
    ends_listed = λ c. rw e (is.ends_listed c ∙ sym (kept-claim (end_of c) (λ _ _. refl) (λ _ _ _. refl) (λ _. refl) (λ _ _ _. refl) log s l p));
  }

  pub AreListed-arrive : (new : List Fact) (sub : Sub) → new ≡ after_arrival log sub → AreListed new edges ends
  AreListed-arrive new sub e = record {
    edges_listed = λ c. rw e (is.edges_listed c ∙ sym (kept-arrive (edge_of c) (λ _ _. refl) (λ _ _ _. refl) (λ _. refl) (λ _ _ _. refl) log sub));
    ends_listed = λ c. rw e (is.ends_listed c ∙ sym (kept-arrive (end_of c) (λ _ _. refl) (λ _ _ _. refl) (λ _. refl) (λ _ _ _. refl) log sub));
  }

  pub AreListed-end : (new : List Fact) (ends' : IndexMap Cluster (Vec ℕ B) T) (r k x : ℕ) → has log (End r k x) ≡ false → new ≡ put log (End r k x) → PushesAt ends (cluster r k) x ends' → AreListed new edges ends'
  AreListed-end new ends' r k x none e pushes = record {
    edges_listed = λ c. rw e (is.edges_listed c ∙ sym (kept-put (edge_of c) log (End r k x) refl));
    ends_listed = λ c. rw e (pushes c ∙ by c (same_cluster (cluster r k) c) refl ∙ sym (pushed-put (end_of c) log (End r k x) none));
  }
    where
      by : (c : Cluster) (b : Bool) → same_cluster (cluster r k) c ≡ b → cond b (list_at ends c ++ x ∷ []) (list_at ends c) ≡ ends_in log c ++ cons_option (cond b (Some x) None) []
      by c true h = ap (λ l. l ++ x ∷ []) (is.ends_listed c)
      by c false h = is.ends_listed c ∙ sym (append-nil (ends_in log c))

  pub AreListed-edge : (plan : Parts) (new : List Fact) (edges' : IndexMap Cluster (Vec Arc A) S) (r k s l : ℕ) → has (after_call plan log r k) (Edge r k s l) ≡ false → new ≡ put (after_call plan log r k) (Edge r k s l) → PushesAt edges (cluster r k) (record { slot = s; left = l }) edges' → AreListed new edges' ends
  AreListed-edge plan new edges' r k s l none e pushes = record {
    edges_listed = λ c. rw e (pushes c ∙ by c (same_cluster (cluster r k) c) ∙ sym (pushed-put (edge_of c) (after_call plan log r k) (Edge r k s l) none));
    ends_listed = λ c. rw e (is.ends_listed c ∙ sym (kept-put (end_of c) (after_call plan log r k) (Edge r k s l) refl ∙ kept-call (end_of c) (λ _ _. refl) (λ _ _ _. refl) (λ _. refl) (λ _ _ _. refl) plan log r k));
  }
    where
      before : (c : Cluster) → list_at edges c ≡ edges_in (after_call plan log r k) c
      before c = is.edges_listed c ∙ sym (kept-call (edge_of c) (λ _ _. refl) (λ _ _ _. refl) (λ _. refl) (λ _ _ _. refl) plan log r k)

      by : (c : Cluster) (b : Bool) → cond b (list_at edges c ++ record { slot = s; left = l } ∷ []) (list_at edges c) ≡ edges_in (after_call plan log r k) c ++ cons_option (cond b (Some (record { slot = s; left = l })) None) []
      by c true = ap (λ es. es ++ record { slot = s; left = l } ∷ []) (before c)
      by c false = before c ∙ sym (append-nil (edges_in (after_call plan log r k) c))

-- a log has another fact as before
pub has-put_other : (log : List Fact) (f g : Fact) → same_fact g f ≡ false → has (put log f) g ≡ has log g
has-put_other log f g apart = put_both (λ new. has new g ≡ has log g) log f (λ _. refl) (λ _. grind (arith, list_any-append (same_fact g) log (f ∷ [])))

-- a call records no edge
pub has-call_edge : (r' k' s' l' : ℕ) (plan : Parts) (log : List Fact) (r k : ℕ) → has (after_call plan log r k) (Edge r' k' s' l') ≡ has log (Edge r' k' s' l')
has-call_edge r' k' s' l' plan log r k =
    let edge = Edge r' k' s' l' in
    same_after_call (λ l. has l edge) plan r k (λ l s. has-put_other l (Desc s k k) edge refl) (λ l s. has-put_other l (Part (empty_sub s k)) edge refl) (λ l. has-put_other l (Called r k) edge refl) log

-- an empty map lists nothing
pub list_at-empty : {T A S : Type 0} (m : IndexMap Cluster (Vec T A) S) (c : Cluster) → m.entries ≡ [] → list_at m c ≡ []
list_at-empty m c h = rw h refl

pub AreListed-begin : {A B S T : Type 0} (plan : Parts) (new : List Fact) (edges : IndexMap Cluster (Vec Arc A) S) (ends : IndexMap Cluster (Vec ℕ B) T) → edges.entries ≡ [] → ends.entries ≡ [] → new ≡ after_call plan [] 0 0 → AreListed new edges ends
AreListed-begin plan new edges ends none none' e = record {
  edges_listed = λ c. rw e (list_at-empty edges c none ∙ sym (kept-call (edge_of c) (λ _ _. refl) (λ _ _ _. refl) (λ _. refl) (λ _ _ _. refl) plan [] 0 0));
  ends_listed = λ c. rw e (list_at-empty ends c none' ∙ sym (kept-call (end_of c) (λ _ _. refl) (λ _ _ _. refl) (λ _. refl) (λ _ _ _. refl) plan [] 0 0));
}
