-- A claim keeps a state tidy.
use Rattle.std.proofs.Common.{◌≡◌, ℕ, ◌+◌, ◌≤◌, Bool, true, false, cond, List, [], ◌∷◌, ◌++◌, count_by, Contains, refl, sym, ap, ◌∙◌, subst, ◌⊎◌, inl, inr, arith}
use Rattle.std.proofs.lemmas.Bool.{cases_Bool}
use Rattle.std.proofs.lemmas.Bool.Decides.{nat_tests}
use Rattle.ix_model.specs.Closure.Useful.{sub_at}
use Rattle.ix_model.specs.declared.rules.Sym.TheVariants as sy
use Rattle.ix_model.specs.Expansion.Parts.{Parts}
use Rattle.ix_model.specs.Expansion.Planned.{IsPlanned}
use Rattle.ix_model.proofs.SlotReaders.{last_reads}
use Rattle.ix_cluster.specs.declared.answers.Claimed.TheVariants.{Mine, Taken, Unknown}
use Rattle.ix_cluster.specs.declared.fact.Fact.{Fact}
use Rattle.ix_cluster.specs.declared.fact.Fact.TheVariants as fact
use Rattle.ix_cluster.specs.Banks.{facts_of}
use Rattle.ix_cluster.specs.Facts.{has, put}
use Rattle.ix_cluster.proofs.CountBy.{count_append}
use Rattle.ix_cluster.proofs.Beginning.{at_end_of}
use Rattle.ix_cluster.proofs.Counts.{put-new}
use Rattle.ix_cluster.proofs.Members.{one_has, none_has, has-Contains}
use Rattle.ix_closure.specs.declared.owed.Owed.{Owed}
use Rattle.ix_closure.specs.declared.owed.Owed.TheVariants.{Claim, Edge, End, Arrive}
use Rattle.ix_closure.specs.Balance.{IsBalanced}
use Rattle.ix_closure.specs.Due.{IsRecorded}
use Rattle.ix_closure.specs.Events.{log_after}
use Rattle.ix_closure.specs.Follows.{FollowsDesc, FollowsClaim, passes, stops, inserts, calls, ends}
use Rattle.ix_closure.specs.Quantity.{same_step, times, givers, gives}
use Rattle.ix_closure.specs.Seen.{State}
use Rattle.ix_closure.specs.Tidy.{IsTidy}
use Rattle.ix_closure.proofs.Due.DueCauses.{ArrivesBy, cause_of}
use Rattle.ix_closure.proofs.Tidying.OwedTimes.{same_step_refl, same_step_true}
use Rattle.ix_closure.proofs.Due.StepLogs.{IsBeside, has_not}
use Rattle.ix_closure.proofs.Tidying.TidyCauses.{IsSingle, IsBroughtOnce, brought_alone}
use Rattle.ix_closure.proofs.Tidying.TidyKnown.{edge_known, arrival_known}
use Rattle.ix_closure.proofs.Tidying.TidyStep.{IsDone, step_owed, tidy_after}

module _ (plan : Parts) (planned : IsPlanned plan) (old new : State) (n : ℕ) (log : List Fact) (s l p : ℕ) (more : List Owed)
    (done : IsDone plan old new n log (Claim s l p) more) (tidy : IsTidy plan old) where
  -- the claim is not recorded before, and its descriptor is
  unclaimed : ¬ (IsRecorded old.banks (fact.Claim s l p))
  unclaimed = (tidy.claims s l p (step_owed plan planned old new n log (Claim s l p) more done)).1

  no_claim : has log (fact.Claim s l p) ≡ false
  no_claim = has_not log (fact.Claim s l p) (λ c. unclaimed (done.moves.back (fact.Claim s l p) c))

  descriptor : has log (fact.Desc s l p) ≡ true
  descriptor = has-Contains log (fact.Desc s l p) (done.moves.here (fact.Desc s l p) refl (cause_of plan planned (IsRecorded old.banks) (Claim s l p) done.due))

  -- so it is the asker's
  follows : FollowsDesc plan s l p more
  follows =
      subst (λ c. FollowsClaim plan (cond true (cond c Taken Mine) Unknown) s l p more) no_claim
      (subst (λ d. FollowsClaim plan (cond d (cond (has log (fact.Claim s l p)) Taken Mine) Unknown) s l p more) descriptor done.follows)

  -- and it alone is recorded
  recorded : log_after plan log (Claim s l p) ≡ log ++ fact.Claim s l p ∷ []
  recorded = ap (λ d. cond d (put log (fact.Claim s l p)) log) descriptor ∙ put-new log (fact.Claim s l p) no_claim

  -- what the claim brings is owed once, and was not known
  brought : (steps : List Owed) → FollowsDesc plan s l p steps → (x : Owed) → IsSingle x → Contains steps x → IsBroughtOnce old steps x
  brought steps (passes x after e next t) o single c =
      brought_alone old (Arrive (sub_at after l p e)) o (λ known. unclaimed (subst (ArrivesBy plan planned (IsRecorded old.banks) s l p e) t.3 (arrival_known plan planned old tidy (sub_at after l p e) known s x next))) c
  brought steps (stops t shown after next none) o single c = absurd (none_has o c)
  brought steps (inserts m after next) o single c =
      brought_alone old (Arrive (sub_at after l p p)) o (λ known. unclaimed (arrival_known plan planned old tidy (sub_at after l p p) known s (sy.Insert m) next)) c
  brought steps (calls r after mark next) o single c = brought_alone old (Edge r p s l) o (λ known. unclaimed (edge_known plan planned old tidy r p s l known)) c
  brought steps (ends r last) o single c = absurd (subst IsSingle (sym (one_has (End r l p) o c)) single)

  -- whether the claim gives the end that is owed
  abbrev gives_end : Owed → Bool
  gives_end (End r k e) = gives plan r k e (fact.Claim s l p)
  gives_end (Claim s' l' p') = false
  gives_end (Edge r k s' l') = false
  gives_end (Arrive sub) = false

  -- an end that it brings is one that it gives
  given : (steps : List Owed) → FollowsDesc plan s l p steps → (r k e : ℕ) → times steps (End r k e) ≤ cond (gives plan r k e (fact.Claim s l p)) 1 0
  given steps (passes x after e' next t) r k e = omega arith
  given steps (stops t shown after next none) r k e = omega arith
  given steps (inserts m after next) r k e = omega arith
  given steps (calls r' after mark next) r k e = omega arith
  given steps (ends r' last) r k e = by (cases_Bool (same_step (End r k e) (End r' l p)))
    where
      own : gives plan r' l p (fact.Claim s l p) ≡ true
      own = grind (arith, nat_tests, at_end_of plan planned r' s last, (last_reads plan s r' last).1)

      by : (same_step (End r k e) (End r' l p) ≡ true) ⊎ (same_step (End r k e) (End r' l p) ≡ false) → times (End r' l p ∷ []) (End r k e) ≤ cond (gives plan r k e (fact.Claim s l p)) 1 0
      by (inl t) =
          subst (λ o. times (End r' l p ∷ []) o ≤ cond (gives_end o) 1 0) (sym (same_step_true (End r k e) (End r' l p) t))
          (omega (arith, ap {B = ℕ} (λ b. cond b 1 0) own, ap {B = ℕ} (λ b. cond b 1 0) (same_step_refl (End r' l p))))
      by (inr f) = omega (arith, ap {B = ℕ} (λ b. cond b 1 0) f)

  -- so each end that is owed has claims enough that give it
  enough : (r k e : ℕ) → times more (End r k e) + givers plan (facts_of old.banks) r k e ≤ givers plan (facts_of new.banks) r k e
  enough r k e =
      omega (
        arith,
        given more follows r k e,
        done.counted (gives plan r k e),
        ap (count_by (gives plan r k e)) recorded,
        count_append (gives plan r k e) log (fact.Claim s l p ∷ []),
      )

  pub claim_tidy : IsBalanced plan new → IsTidy plan new
  unfolding IsBeside
  claim_tidy balanced = tidy_after plan planned old new n log (Claim s l p) more done tidy balanced tt (λ f b. absurd b) (brought more follows) enough
