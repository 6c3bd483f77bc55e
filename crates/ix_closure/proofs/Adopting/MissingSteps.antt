-- What the facts of banks bring, and the banks lack, is what is missing.
use Rattle.std.proofs.Common.{◌≡◌, List, [], ◌∷◌, Contains, refl, inl, inr}
use Rattle.ix_model.specs.Expansion.Parts.{Parts}
use Rattle.ix_model.specs.Expansion.Planned.{IsPlanned}
use Rattle.ix_cluster.specs.Seen.{Bank}
use Rattle.ix_cluster.specs.Sound.{AreSound}
use Rattle.ix_cluster.proofs.Members.{none_has, first_has}
use Rattle.ix_closure.specs.declared.owed.Owed.{Owed}
use Rattle.ix_closure.specs.Additions.{Adds, IsOfSome}
use Rattle.ix_closure.specs.Adoption.{OwesMissing, LacksNothing}
use Rattle.ix_closure.specs.Brought.{IsBroughtBy, Lacks}
use Rattle.ix_closure.specs.Due.{IsRecorded, IsMissing}
use Rattle.ix_closure.specs.Quantity.{same_step}
use Rattle.ix_closure.specs.Seen.{State}
use Rattle.ix_closure.proofs.Adopting.AddedItems.{none_distinct}
use Rattle.ix_closure.proofs.Adopting.BroughtByFacts.{brought_due, due_brought}
use Rattle.ix_closure.proofs.Lists.ListMembers.{flat_has, flat_from}

module _ (plan : Parts) (planned : IsPlanned plan) (banks : List Bank) (sound : AreSound plan banks) where
  -- the steps that the logs of all banks brought to an empty list, and that are not recorded, are the missing ones
  pub owes_missing : (owed : List Owed) → Adds same_step (IsOfSome banks (λ (bank : Bank). IsOfSome bank.log (λ f. Lacks banks (IsBroughtBy plan banks f)))) [] owed → OwesMissing plan (record { banks = banks; owed = owed })
  owes_missing owed adds = record {
    exact = λ step. (missing step, owes step);
    once = adds.once (none_distinct same_step);
  }
    where
      missing : (step : Owed) → Contains owed step → IsMissing plan banks step
      missing step c = elim (adds.from step c) [
        | inl none ↦ absurd (none_has step none)
        | inr w ↦
            let there : IsRecorded banks w.2.0 = flat_has (λ (b : Bank). b.log) banks w.0 w.2.0 w.1 w.2.1 in
            (brought_due plan planned banks sound w.2.0 step there w.2.2.0, w.2.2.1)
      ]

      owes : (step : Owed) → IsMissing plan banks step → Contains owed step
      owes step d =
          let w = due_brought plan planned banks sound step d.0 in
          let p = flat_from (λ (b : Bank). b.log) banks w.0 w.1 in
          adds.all step (p.0, p.1, (w.0, p.2, (w.2, d.1)))

-- a state that owes what is missing owes nothing, where nothing is missing
pub nothing_owed : (plan : Parts) (state : State) → OwesMissing plan state → LacksNothing plan state.banks → state.owed ≡ []
nothing_owed plan state owes none = by state.owed (λ step h. none step ((owes.exact step).0 h))
  where
    by : (owed : List Owed) → ((step : Owed) → Contains owed step → ⊥) → owed ≡ []
    by [] h = refl
    by (x ∷ xs) h = absurd (h x (first_has x xs))
