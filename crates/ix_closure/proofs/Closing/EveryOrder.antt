-- Every order of steps from the opening goes through tidy states, and ends in the closure.
use Rattle.std.proofs.Common.{◌≡◌, ℕ, List, length, ap, arith}
use Rattle.ix_model.specs.Expansion.Parts.{Parts}
use Rattle.ix_model.specs.Expansion.Planned.{IsPlanned}
use Rattle.ix_cluster.specs.Banks.{opening}
use Rattle.ix_cluster.specs.Firsts.{firsts_of}
use Rattle.ix_cluster.specs.Sound.{AreSound}
use Rattle.ix_closure.specs.Follows.{claims_at}
use Rattle.ix_closure.specs.Orders.{EveryOrder}
use Rattle.ix_closure.specs.Runs.{Run, rests, goes_on}
use Rattle.ix_closure.specs.Seen.{State}
use Rattle.ix_closure.specs.Tidy.{IsTidy}
use Rattle.ix_closure.proofs.Balancing.EventBalance.{event_balanced}
use Rattle.ix_closure.proofs.Tidying.EventTidy.{event_tidy}
use Rattle.ix_closure.proofs.Weighing.FewChoices.{few_choices, few_steps}
use Rattle.ix_closure.proofs.Weighing.Weights.{weight_of_facts}
use Rattle.ix_closure.proofs.Balancing.Opening.{opening_balanced, opening_tidy}
use Rattle.ix_closure.proofs.Closing.QuietClosure.{quiet_closure}

module _ (plan : Parts) (planned : IsPlanned plan) (first : State) (banks : first.banks ≡ opening plan 1) (owed : first.owed ≡ claims_at 0 (firsts_of plan 0)) (sound : AreSound plan first.banks) where
  run_tidy : (choices : List ℕ) (last : State) → Run plan first choices last → IsTidy plan last
  run_tidy choices last rests = opening_tidy plan planned first 1 banks owed (opening_balanced plan first banks owed sound)
  run_tidy choices last (goes_on before n state _ run event) =
      let tidy = run_tidy before state run in
      event_tidy plan planned state n last tidy event (event_balanced plan planned state last n tidy.balanced event)

  pub every_order : EveryOrder plan first
  every_order = record {
    tidy = run_tidy;
    ends = λ choices last run quiet. quiet_closure plan last (run_tidy choices last run).balanced (ap length quiet);
    paid = λ choices last run. omega (arith, few_steps plan planned first banks owed run_tidy last choices run, weight_of_facts last.banks);
    short = λ choices last all run closure. omega (arith, few_choices plan planned first banks owed run_tidy last choices run all closure);
  }
