-- An event keeps a state balanced.
use Rattle.std.proofs.Common.{ℕ, List, ◌++◌, length, remove, Contains, refl, sym, subst, inl, inr}
use Rattle.std.proofs.lemmas.List.Elements.{Contains-append_left, Contains-append_right, Contains-append_cases}
use Rattle.ix_model.specs.Expansion.Parts.{Parts}
use Rattle.ix_model.specs.Expansion.Planned.{IsPlanned}
use Rattle.ix_cluster.specs.declared.fact.Fact.{Fact}
use Rattle.ix_cluster.specs.ClosedFacts.{IsInClosed}
use Rattle.ix_closure.specs.declared.owed.Owed.{Owed}
use Rattle.ix_closure.specs.declared.owed.Owed.TheVariants.{Claim, Edge, End, Arrive}
use Rattle.ix_closure.specs.Balance.{IsBalanced}
use Rattle.ix_closure.specs.Due.{IsDue, IsRecorded, FollowsIn, IsMissing}
use Rattle.ix_closure.specs.Events.{Event, log_after}
use Rattle.ix_closure.specs.Follows.{fact_of, Follows}
use Rattle.ix_closure.specs.Runs.{Run, rests, goes_on}
use Rattle.ix_closure.specs.Seen.{State}
use Rattle.ix_closure.proofs.Due.BroughtSteps.{Brings, claim_brings, end_brings, arrival_brings, edge_brings}
use Rattle.ix_closure.proofs.Balancing.EventBanks.{SharesHome, HomeMoves, step_due, step_closed, event_sound, event_moves}
use Rattle.ix_closure.proofs.Lists.ListMembers.{left_was, taken_or_left}
use Rattle.ix_closure.proofs.Due.NewlyDue.{due_grows}
use Rattle.ix_closure.proofs.Balancing.RecordedFacts.{Moves, recorded_closed}

-- each kind of step brings what becomes due by it
pub step_brings : (plan : Parts) → IsPlanned plan → (count : ℕ) (Before After : Fact → Type 0) (log : List Fact) → ((f : Fact) → Before f → IsInClosed plan f) → (o : Owed) (more : List Owed) → IsDue plan Before o → IsInClosed plan (fact_of o)
    → Moves (SharesHome plan count o) Before After log (log_after plan log o) → Follows plan log o more → Brings plan Before After o more
step_brings plan planned count Before After log true_fact (Claim s l p) more due closed moves follows = claim_brings plan planned (SharesHome plan count (Claim s l p)) Before After log true_fact s l p more due refl moves follows
step_brings plan planned count Before After log true_fact (Edge r k s l) more due closed moves follows = edge_brings plan planned (SharesHome plan count (Edge r k s l)) Before After log true_fact r k s l (λ e. refl) more closed moves follows
step_brings plan planned count Before After log true_fact (End r k e) more due closed moves follows = end_brings plan planned (SharesHome plan count (End r k e)) Before After log true_fact r k e (λ s l. refl) more moves follows
step_brings plan planned count Before After log true_fact (Arrive sub) more due closed moves follows = arrival_brings plan planned (SharesHome plan count (Arrive sub)) Before After log true_fact sub more moves follows

module _ (plan : Parts) (planned : IsPlanned plan) (old new : State) (n : ℕ) (balanced : IsBalanced plan old) (event : Event plan old n new) where
  moves : HomeMoves plan old new event.bank.log event.step
  moves = event_moves plan planned old new n balanced event

  pub event_brings : Brings plan (IsRecorded old.banks) (IsRecorded new.banks) event.step event.more
  event_brings =
      step_brings plan planned (length old.banks) (IsRecorded old.banks) (IsRecorded new.banks) event.bank.log (recorded_closed plan old.banks balanced.sound) event.step event.more
      (step_due plan planned old new n balanced event) (step_closed plan planned old new n balanced event) moves event.follows

  missing_owed : (o : Owed) → IsMissing plan new.banks o → Contains (remove old.owed n ++ event.more) o
  missing_owed o (due, none) = elim (event_brings.newly o due) [
    | inr h ↦ Contains-append_right (remove old.owed n) event.more o h
    | inl before ↦ elim (taken_or_left old.owed n event.step o event.taken (balanced.missing o (before, λ h. none (moves.grows (fact_of o) h)))) [
      | inl e ↦ absurd (none (subst (λ (z : Owed). IsRecorded new.banks (fact_of z)) e event_brings.done))
      | inr h ↦ Contains-append_left (remove old.owed n) event.more o h
    ]
  ]

  owed_due : (o : Owed) → Contains (remove old.owed n ++ event.more) o → FollowsIn plan new.banks o
  owed_due o h = elim (Contains-append_cases (remove old.owed n) event.more o h) [
    | inl l ↦ due_grows plan (IsRecorded old.banks) (IsRecorded new.banks) moves.grows o (balanced.caused o (left_was old.owed n o l))
    | inr l ↦ event_brings.causes o l
  ]

  pub event_balanced : IsBalanced plan new
  event_balanced = record {
    sound = event_sound plan planned old new n balanced event;
    missing = λ o h. subst (λ (z : List Owed). Contains z o) (sym event.owed) (missing_owed o h);
    caused = λ o h. owed_due o (subst (λ (z : List Owed). Contains z o) event.owed h);
  }

-- and so does each list of choices
pub run_balanced : (plan : Parts) → IsPlanned plan → (first : State) (choices : List ℕ) (last : State) → IsBalanced plan first → Run plan first choices last → IsBalanced plan last
run_balanced plan planned first choices last balanced rests = balanced
run_balanced plan planned first choices last balanced (goes_on before n middle _ run event) = event_balanced plan planned middle last n (run_balanced plan planned first before middle balanced run) event
