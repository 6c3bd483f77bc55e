-- the pairs that were handed out, as facts are recorded
use Rattle.std.proofs.Common.{◌≡◌, ℕ, ◌+◌, ◌*◌, ◌≤◌, ◌<◌, Bool, true, false, cond, List, [], ◌∷◌, ◌++◌, length, count_by, Some, None, refl, sym, ap, ◌∙◌, arith}
use Rattle.std.specs.List.{cons_option}
use Rattle.std.proofs.lemmas.List.Sums.{count_by-le-length}
use Rattle.std.proofs.Math.Nat.{mul-le-mul}
use Rattle.ix_model.specs.Expansion.Parts.{Parts}
use Rattle.ix_model.specs.declared.sub.Sub.{Sub}
use Rattle.ix_cluster.specs.declared.limits.TheConstants.{FACT_LIMIT}
use Rattle.ix_cluster.specs.declared.cluster.Edge.{Edge as Arc}
use Rattle.ix_cluster.specs.declared.fact.Fact.{Fact}
use Rattle.ix_cluster.specs.declared.fact.Fact.TheVariants.{Called, Edge, End, Desc, Part, Claim}
use Rattle.ix_cluster.specs.Facts.{has, put}
use Rattle.ix_cluster.specs.Lists.{cluster, same_cluster}
use Rattle.ix_cluster.specs.Steps.{empty_sub, end_of, edges_in, ends_in, after_call, after_claim, after_arrival}
use Rattle.ix_cluster.specs.Handed.{meets, pair_count}
use Rattle.ix_cluster.proofs.CountBy.{count_cons, count_push, count_none}
use Rattle.ix_cluster.proofs.Counts.{put-new}
use Rattle.ix_cluster.proofs.ListLemmas.{same_cluster-equivalence}
use Rattle.ix_cluster.proofs.Listing.{kept-call, has-call_edge}
use Rattle.ix_cluster.proofs.Recording.{put_both, claim_both, same_after_call}

pub handed-push : (log : List Fact) (f : Fact) → pair_count (log ++ f ∷ []) ≡ pair_count log + count_by (λ g. meets g f) log
handed-push [] f = refl
handed-push (g ∷ log) f = omega (arith, handed-push log f, count_push (meets g) log f, count_cons (λ h. meets h f) g log)

-- a fact that meets none hands out nothing
pub handed-put_other : (log : List Fact) (f : Fact) → ((g : Fact) → meets g f ≡ false) → pair_count (put log f) ≡ pair_count log
handed-put_other log f none = put_both (λ new. pair_count new ≡ pair_count log) log f (λ _. refl) (λ _. omega (arith, handed-push log f, count_none (λ g. meets g f) log (λ g _. none g)))

pub called-none : (r k : ℕ) (g : Fact) → meets g (Called r k) ≡ false
called-none r k (Edge _ _ _ _) = refl
called-none r k (End _ _ _) = refl
called-none r k g = refl

pub desc-none : (s l p : ℕ) (g : Fact) → meets g (Desc s l p) ≡ false
desc-none s l p (Edge _ _ _ _) = refl
desc-none s l p (End _ _ _) = refl
desc-none s l p g = refl

pub part-none : (sub : Sub) (g : Fact) → meets g (Part sub) ≡ false
part-none sub (Edge _ _ _ _) = refl
part-none sub (End _ _ _) = refl
part-none sub g = refl

pub claim-none : (s l p : ℕ) (g : Fact) → meets g (Claim s l p) ≡ false
claim-none s l p (Edge _ _ _ _) = refl
claim-none s l p (End _ _ _) = refl
claim-none s l p g = refl

-- two facts meet, whichever comes first
pub meets-symm : (f g : Fact) → meets f g ≡ meets g f
meets-symm (Edge r k s l) (End r' k' e) = same_cluster-equivalence.symm (cluster r k) (cluster r' k')
meets-symm (End r k e) (Edge r' k' s l) = same_cluster-equivalence.symm (cluster r k) (cluster r' k')
meets-symm (Edge r k s l) g = refl
meets-symm (End r k e) g = refl
meets-symm (Called r k) g = sym (called-none r k g)
meets-symm (Desc s l p) g = sym (desc-none s l p g)
meets-symm (Part sub) g = sym (part-none sub g)
meets-symm (Claim s l p) g = sym (claim-none s l p g)

pub handed-call : (plan : Parts) (log : List Fact) (r k : ℕ) → pair_count (after_call plan log r k) ≡ pair_count log
handed-call plan log r k =
    same_after_call pair_count plan r k (λ l s. handed-put_other l (Desc s k k) (desc-none s k k)) (λ l s. handed-put_other l (Part (empty_sub s k)) (part-none _)) (λ l. handed-put_other l (Called r k) (called-none r k)) log

pub handed-claim : (log : List Fact) (s l p : ℕ) → pair_count (after_claim log s l p) ≡ pair_count log
handed-claim log s l p = claim_both (λ new. pair_count new ≡ pair_count log) log s l p (λ _. handed-put_other log (Claim s l p) (claim-none s l p)) refl

pub handed-arrive : (log : List Fact) (sub : Sub) → pair_count (after_arrival log sub) ≡ pair_count log
handed-arrive log sub = handed-put_other (put log (Part sub)) (Desc sub.slot sub.left sub.right) (desc-none _ _ _) ∙ handed-put_other log (Part sub) (part-none sub)

-- an edge meets the ends of its cluster
pub ends-met : (log : List Fact) (r k s l : ℕ) → count_by (λ g. meets g (Edge r k s l)) log ≡ length (ends_in log (cluster r k))
ends-met [] r k s l = refl
ends-met (f ∷ log) r k s l = count_cons (λ g. meets g (Edge r k s l)) f log ∙ by f (ends-met log r k s l)
  where
    met : ℕ
    met = count_by (λ g. meets g (Edge r k s l)) log

    meets_end : (b : Bool) (e : ℕ) → met ≡ length (ends_in log (cluster r k)) → cond b 1 0 + met ≡ length (cons_option (cond b (Some e) None) (ends_in log (cluster r k)))
    meets_end true e rest = omega (arith, rest)
    meets_end false e rest = omega (arith, rest)

    by : (f : Fact) → met ≡ length (ends_in log (cluster r k)) → cond (meets f (Edge r k s l)) 1 0 + met ≡ length (ends_in (f ∷ log) (cluster r k))
    by (End r' k' e) rest = meets_end (same_cluster (cluster r' k') (cluster r k)) e rest
    by (Called _ _) rest = omega (arith, rest)
    by (Edge _ _ _ _) rest = omega (arith, rest)
    by (Desc _ _ _) rest = omega (arith, rest)
    by (Part _) rest = omega (arith, rest)
    by (Claim _ _ _) rest = omega (arith, rest)

pub edges-met : (log : List Fact) (r k e : ℕ) → count_by (λ g. meets g (End r k e)) log ≡ length (edges_in log (cluster r k))
edges-met [] r k e = refl
edges-met (f ∷ log) r k e = count_cons (λ g. meets g (End r k e)) f log ∙ by f (edges-met log r k e)
  where
    met : ℕ
    met = count_by (λ g. meets g (End r k e)) log

    meets_edge : (b : Bool) (edge : Arc) → met ≡ length (edges_in log (cluster r k)) → cond b 1 0 + met ≡ length (cons_option (cond b (Some edge) None) (edges_in log (cluster r k)))
    meets_edge true edge rest = omega (arith, rest)
    meets_edge false edge rest = omega (arith, rest)

    by : (f : Fact) → met ≡ length (edges_in log (cluster r k)) → cond (meets f (End r k e)) 1 0 + met ≡ length (edges_in (f ∷ log) (cluster r k))
    by (Edge r' k' s l) rest = meets_edge (same_cluster (cluster r' k') (cluster r k)) (record { slot = s; left = l }) rest
    by (Called _ _) rest = omega (arith, rest)
    by (End _ _ _) rest = omega (arith, rest)
    by (Desc _ _ _) rest = omega (arith, rest)
    by (Part _) rest = omega (arith, rest)
    by (Claim _ _ _) rest = omega (arith, rest)

-- a new edge hands out the ends of its cluster
pub handed-edge : (log : List Fact) (r k s l : ℕ) → has log (Edge r k s l) ≡ false → pair_count (put log (Edge r k s l)) ≡ pair_count log + length (ends_in log (cluster r k))
handed-edge log r k s l none = ap pair_count (put-new log (Edge r k s l) none) ∙ omega (arith, handed-push log (Edge r k s l), ends-met log r k s l)

-- a new end hands out the edges of its cluster
pub handed-end : (log : List Fact) (r k e : ℕ) → has log (End r k e) ≡ false → pair_count (put log (End r k e)) ≡ pair_count log + length (edges_in log (cluster r k))
handed-end log r k e none = ap pair_count (put-new log (End r k e) none) ∙ omega (arith, handed-push log (End r k e), edges-met log r k e)

-- so many pairs there are at most
pub handed-le : (log : List Fact) → pair_count log ≤ length log * length log
handed-le [] = omega arith
handed-le (f ∷ log) = grind (arith, handed-le log, count_by-le-length (meets f) log)

pub handed-small : (log : List Fact) → length log < FACT_LIMIT → pair_count log ≤ FACT_LIMIT * FACT_LIMIT
handed-small log h =
    let less : length log ≤ FACT_LIMIT = omega arith in
    omega (arith, handed-le log, mul-le-mul less less)

pub handed-after_end : (log new : List Fact) (r k e handed len : ℕ) → has log (End r k e) ≡ false → new ≡ put log (End r k e) → handed ≡ pair_count log → len ≡ length (edges_in log (cluster r k)) → handed + len ≡ pair_count new
handed-after_end log new r k e handed len none is h l = rw is (omega (arith, handed-end log r k e none))

pub handed-after_edge : (plan : Parts) (log new : List Fact) (r k s l handed len : ℕ) → has log (Edge r k s l) ≡ false → new ≡ put (after_call plan log r k) (Edge r k s l) → handed ≡ pair_count log → len ≡ length (ends_in log (cluster r k)) → handed + len ≡ pair_count new
handed-after_edge plan log new r k s l handed len none is h e =
    let same = kept-call (end_of (cluster r k)) (λ _ _. refl) (λ _ _ _. refl) (λ _. refl) (λ _ _ _. refl) plan log r k in
    rw is (omega (arith, handed-edge (after_call plan log r k) r k s l (has-call_edge r k s l plan log r k ∙ none), handed-call plan log r k, ap length same))
