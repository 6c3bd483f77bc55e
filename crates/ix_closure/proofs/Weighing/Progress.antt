-- A step records a fact, or fewer steps are owed behind it.
use Rattle.std.proofs.Common.{◌≡◌, ℕ, ◌+◌, ◌≤◌, Bool, true, false, cond, not, List, [], ◌++◌, append-nil, length, map, remove, Some, slice_get, slice_set, refl, ap, ◌∙◌, ◌⊎◌, inl, inr, arith}
use Rattle.std.proofs.lemmas.List.Edits.{length-remove}
use Rattle.std.proofs.lemmas.Option.{slice_get_within}
use Rattle.ix_model.specs.Expansion.Parts.{Parts}
use Rattle.ix_cluster.specs.declared.answers.Arrived.TheVariants.{Fresh, Known}
use Rattle.ix_cluster.specs.declared.answers.Claimed.TheVariants.{Mine, Taken, Unknown}
use Rattle.ix_cluster.specs.declared.fact.Fact.{Fact}
use Rattle.ix_cluster.specs.declared.fact.Fact.TheVariants as fact
use Rattle.ix_cluster.specs.Banks.{facts_of}
use Rattle.ix_cluster.specs.Facts.{has, put}
use Rattle.ix_cluster.specs.Firsts.{firsts_of}
use Rattle.ix_cluster.specs.Lists.{cluster}
use Rattle.ix_cluster.specs.Seen.{Bank}
use Rattle.ix_cluster.specs.Steps.{after_call, edges_in, ends_in}
use Rattle.ix_cluster.proofs.Listing.{has-put_other, has-call_edge}
use Rattle.ix_closure.specs.declared.owed.Owed.{Owed}
use Rattle.ix_closure.specs.declared.owed.Owed.TheVariants.{Claim, Edge, End, Arrive}
use Rattle.ix_closure.specs.Events.{Event, log_after, bank_after, home_for}
use Rattle.ix_closure.specs.Follows.{arrival, claims_at, fresh_claim, FollowsClaim, Follows}
use Rattle.ix_closure.specs.Seen.{State}
use Rattle.ix_closure.proofs.Lists.ListCounts.{count_all}
use Rattle.ix_closure.proofs.Weighing.LogCounts.{count_put, count_put_new, count_call, count_after, count_set}

-- a log is not shorter after a fact is put into it
pub put_longer : (log : List Fact) (f : Fact) → length log ≤ length (put log f)
put_longer log f = omega (arith, count_all log, count_all (put log f), count_put (λ _. true) log f)

put_one_longer : (log : List Fact) (f : Fact) → has log f ≡ false → length log + 1 ≤ length (put log f)
put_one_longer log f e = omega (arith, count_all log, count_all (put log f), count_put_new (λ _. true) log f e refl)

call_longer : (plan : Parts) (k : ℕ) (log : List Fact) (r : ℕ) → length log ≤ length (after_call plan log r k)
call_longer plan k log r = omega (arith, count_all log, count_all (after_call plan log r k), count_call (λ _. true) plan k log r)

after_longer : (plan : Parts) (log : List Fact) (o : Owed) → length log ≤ length (log_after plan log o)
after_longer plan log o = omega (arith, count_all log, count_all (log_after plan log o), count_after (λ _. true) plan log o)

-- the step records a fact, or nothing follows
progress : (plan : Parts) (log : List Fact) (o : Owed) (more : List Owed) → Follows plan log o more → (length log + 1 ≤ length (log_after plan log o)) ⊎ (more ≡ [])
progress plan log (Claim s l p) more follows = by (has log (fact.Desc s l p)) (has log (fact.Claim s l p)) refl follows
  where
    by : (d c : Bool) → has log (fact.Claim s l p) ≡ c → FollowsClaim plan (cond d (cond c Taken Mine) Unknown) s l p more → (length log + 1 ≤ length (cond d (put log (fact.Claim s l p)) log)) ⊎ (more ≡ [])
    by false c e f = inr f
    by true true e f = inr f
    by true false e f = inl (put_one_longer log (fact.Claim s l p) e)
progress plan log (Edge r k s l) more follows = by (has log (fact.Edge r k s l)) refl follows
  where
    by : (b : Bool) → has log (fact.Edge r k s l) ≡ b → more ≡ cond (cond b false (not (has log (fact.Called r k)))) (claims_at k (firsts_of plan r)) [] ++ map (λ e. arrival k e (record { slot = s; left = l })) (cond b [] (ends_in log (cluster r k)))
        → (length log + 1 ≤ length (cond b log (put (after_call plan log r k) (fact.Edge r k s l)))) ⊎ (more ≡ [])
    by true w f = inr f
    by false w f = inl (omega (arith, call_longer plan k log r, put_one_longer (after_call plan log r k) (fact.Edge r k s l) (has-call_edge r k s l plan log r k ∙ w)))
progress plan log (End r k e) more follows = by (has log (fact.End r k e)) refl follows
  where
    by : (b : Bool) → has log (fact.End r k e) ≡ b → more ≡ map (arrival k e) (cond b [] (edges_in log (cluster r k))) → (length log + 1 ≤ length (put log (fact.End r k e))) ⊎ (more ≡ [])
    by true w f = inr f
    by false w f = inl (put_one_longer log (fact.End r k e) w)
progress plan log (Arrive sub) more follows = by (has log (fact.Desc sub.slot sub.left sub.right)) refl follows
  where
    by : (b : Bool) → has log (fact.Desc sub.slot sub.left sub.right) ≡ b → more ≡ fresh_claim (cond b Known Fresh) sub → (length log + 1 ≤ length (put (put log (fact.Part sub)) (fact.Desc sub.slot sub.left sub.right))) ⊎ (more ≡ [])
    by true w f = inr f
    by false w f =
        inl (omega (arith, put_longer log (fact.Part sub), put_one_longer (put log (fact.Part sub)) (fact.Desc sub.slot sub.left sub.right) (has-put_other log (fact.Part sub) (fact.Desc sub.slot sub.left sub.right) refl ∙ w)))

-- ---- all banks

-- one bank's log has changed
facts_set : (banks : List Bank) (m : ℕ) (old new : Bank) → slice_get banks m ≡ Some old → length (facts_of (slice_set banks m new)) + length old.log ≡ length (facts_of banks) + length new.log
facts_set banks m old new there =
    omega (arith, count_all (facts_of banks), count_all (facts_of (slice_set banks m new)), count_all old.log, count_all new.log, count_set (λ _. true) banks m old new there)

-- an event records a fact, or fewer steps are owed behind it
pub event_shrinks : (plan : Parts) (old new : State) (n : ℕ) → Event plan old n new → (length (facts_of old.banks) + 1 ≤ length (facts_of new.banks)) ⊎ ((length (facts_of old.banks) ≤ length (facts_of new.banks)) × (length new.owed + 1 ≡ length old.owed))
event_shrinks plan old new n event =
    let set = facts_set old.banks (home_for plan (length old.banks) event.step) event.bank (bank_after plan event.bank event.step) event.there in
    let all = ap (λ (z : List Bank). length (facts_of z)) event.done in
    elim (progress plan event.bank.log event.step event.more event.follows) [
      | inl h ↦ inl (omega (arith, all, set, h))
      | inr h ↦ inr (omega (arith, all, set, after_longer plan event.bank.log event.step), omega (arith, ap length event.owed, ap (λ (z : List Owed). length (remove old.owed n ++ z)) h, ap length (append-nil (remove old.owed n)), length-remove old.owed n (slice_get_within old.owed n event.step event.taken)))
    ]
