-- Steps of which each is the last that is owed.
use Rattle.std.proofs.Common.{◌≡◌, ℕ, ◌+◌, List, [], ◌∷◌, ◌++◌, length, length-append, refl, ap, subst, arith}
use Rattle.ix_model.specs.Expansion.Parts.{Parts}
use Rattle.ix_closure.specs.Events.{Event}
use Rattle.ix_closure.specs.LastRuns.{LastRun, stays, does_last, IsReachedByLast}
use Rattle.ix_closure.specs.Runs.{Run, rests, goes_on}
use Rattle.ix_closure.specs.Seen.{State}
use Rattle.ix_closure.proofs.Due.OneOutcome.{one_more}

-- one more last step, by a plan that is the same
pub last_further : {plan now : Parts} {first before after : State} {n : ℕ} → IsReachedByLast plan first before → now ≡ plan → n + 1 ≡ length before.owed → Event now before n after → IsReachedByLast plan first after
last_further {plan} {now} {first} {before} {after} {n} r same last event = (r.0 ++ n ∷ [], does_last r.0 n before after r.1 last (subst (λ (p : Parts). Event p before n after) same event))

module _ (plan : Parts) (first : State) where
  -- steps that are each the last are steps
  pub last_runs : (choices : List ℕ) (last : State) → LastRun plan first choices last → Run plan first choices last
  last_runs choices last stays = rests
  last_runs choices last (does_last before n middle _ run is event) = goes_on before n middle last (last_runs before middle run) event

  -- no choice leads nowhere else
  none_last : (choices : List ℕ) (last : State) → LastRun plan first choices last → choices ≡ [] → last ≡ first
  none_last choices last stays e = refl
  none_last choices last (does_last before n middle _ run is event) e = absurd (omega (arith, ap length e, length-append before (n ∷ [])))

  -- the only choice is the last step of the first state
  pub one_last : (choices : List ℕ) (last : State) → LastRun plan first choices last → (n : ℕ) → choices ≡ n ∷ [] → n + 1 ≡ length first.owed
  one_last choices last stays n e = absurd (omega (arith, ap length e))
  one_last choices last (does_last before m middle _ run is event) n e =
      let same = one_more before [] m n e in
      omega (arith, is, same.1, ap (λ (s : State). length s.owed) (none_last before middle run same.0))
