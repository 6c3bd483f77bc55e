-- Events of the small states of the worked examples.
use Rattle.std.proofs.Common.{◌≡◌, ℕ, ◌+◌, ◌<◌, List, [], ◌∷◌, ◌++◌, length, slice_get, slice_set, refl, sym, ap, arith}
use Rattle.ix_examples.specs.SmallPlans.{cycle, nothing}
use Rattle.ix_model.specs.Expansion.Parts.{Parts}
use Rattle.ix_cluster.specs.declared.limits.TheConstants.{FACT_LIMIT}
use Rattle.ix_cluster.specs.declared.fact.Fact.{Fact}
use Rattle.ix_cluster.specs.declared.fact.Fact.TheVariants as fact
use Rattle.ix_cluster.specs.Room.{unclaimed_in}
use Rattle.ix_cluster.specs.Seen.{Bank}
use Rattle.ix_closure.specs.declared.owed.Owed.{Owed}
use Rattle.ix_closure.specs.declared.owed.Owed.TheVariants.{Claim, Edge, End}
use Rattle.ix_closure.specs.Events.{Event, bank_after, handed_by, home_for, log_after}
use Rattle.ix_closure.specs.Examples.{alone, cycle_begun, cycle_called, cycle_claimed, nothing_begun, nothing_called, nothing_claimed, nothing_ended}
use Rattle.ix_closure.specs.Follows.{Follows}
use Rattle.ix_closure.specs.Runs.{Run, rests, goes_on}
use Rattle.ix_closure.specs.Seen.{State}
use Rattle.ix_closure.proofs.Small.SmallSteps.{cycle_calls, cycle_stops, nothing_ends}

-- the first owed step of one bank is done
pub first_event : (plan : Parts) (log : List Fact) (handed : ℕ) (step : Owed) (rest more : List Owed) → home_for plan 1 step ≡ 0 → Follows plan log step more → length (log_after plan log step) + unclaimed_in (log_after plan log step) < FACT_LIMIT
    → Event plan (alone log handed (step ∷ rest)) 0 (alone (log_after plan log step) (handed + handed_by log step) (rest ++ more))
first_event plan log handed step rest more here follows bounded = record {
  step = step;
  taken = refl;
  bank = bank;
  there = ap (slice_get (bank ∷ [])) here;
  done = ap (λ m. slice_set (bank ∷ []) m (bank_after plan bank step)) (sym here);
  more = more;
  follows = follows;
  owed = refl;
  bounded = bounded;
}
  where
    bank : Bank
    bank = record { log = log; handed = handed }

-- and a run goes on with it
pub first_goes_on : (plan : Parts) (first : State) (choices : List ℕ) (log : List Fact) (handed : ℕ) (step : Owed) (rest more : List Owed) → Run plan first choices (alone log handed (step ∷ rest)) → home_for plan 1 step ≡ 0 → Follows plan log step more
    → length (log_after plan log step) + unclaimed_in (log_after plan log step) < FACT_LIMIT → Run plan first (choices ++ 0 ∷ []) (alone (log_after plan log step) (handed + handed_by log step) (rest ++ more))
first_goes_on plan first choices log handed step rest more run here follows bounded =
    goes_on choices 0 (alone log handed (step ∷ rest)) (alone (log_after plan log step) (handed + handed_by log step) (rest ++ more)) run (first_event plan log handed step rest more here follows bounded)

-- ---- S: .

pub nothing_is_claimed : Event (nothing []) nothing_begun 0 nothing_claimed
nothing_is_claimed = first_event (nothing []) nothing_called 0 (Claim 0 0 0) [] (End 0 0 0 ∷ []) refl nothing_ends (omega arith)

pub nothing_is_ended : Event (nothing []) nothing_claimed 0 nothing_ended
nothing_is_ended = first_event (nothing []) (nothing_called ++ fact.Claim 0 0 0 ∷ []) 0 (End 0 0 0) [] [] refl refl (omega arith)

pub nothing_goes_on : Run (nothing []) nothing_begun (0 ∷ []) nothing_claimed
nothing_goes_on = goes_on [] 0 nothing_begun nothing_claimed rests nothing_is_claimed

pub nothing_runs : Run (nothing []) nothing_begun (0 ∷ 0 ∷ []) nothing_ended
nothing_runs = goes_on (0 ∷ []) 0 nothing_claimed nothing_ended nothing_goes_on nothing_is_ended

-- ---- S: S; "a".

pub cycle_is_claimed : Event (cycle []) cycle_begun 0 (cycle_claimed (Claim 2 0 0 ∷ Edge 0 0 0 0 ∷ []))
cycle_is_claimed = first_event (cycle []) cycle_called 0 (Claim 0 0 0) (Claim 2 0 0 ∷ []) (Edge 0 0 0 0 ∷ []) refl cycle_calls (omega arith)

pub second_is_claimed : Event (cycle []) cycle_begun 1 (alone (cycle_called ++ fact.Claim 2 0 0 ∷ []) 0 (Claim 0 0 0 ∷ []))
second_is_claimed = record { step = Claim 2 0 0; taken = refl; bank = record { log = cycle_called; handed = 0 }; there = refl; done = refl; more = []; follows = cycle_stops; owed = refl; bounded = omega arith }
