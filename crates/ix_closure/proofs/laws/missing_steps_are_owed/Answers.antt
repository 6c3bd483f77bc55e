use Rattle.std.proofs.Common.{[], ◌∷◌, refl, sym, subst, rules, arith}
use Rattle.std.specs.List.{IsDistinct}
use Rattle.ix_cluster.specs.declared.fact.Fact.TheVariants as fact
use Rattle.ix_cluster.proofs.Members.{first_has, none_has, one_has}
use Rattle.ix_closure.specs.declared.owed.Owed.{Owed}
use Rattle.ix_closure.specs.declared.owed.Owed.TheVariants.{Claim, End}
use Rattle.ix_closure.specs.Due.{IsRecorded, claim}
use Rattle.ix_closure.specs.Examples.{nothing_begun}
use Rattle.ix_closure.specs.Follows.{fact_of}
use Rattle.ix_closure.specs.Quantity.{same_step}
use Rattle.ix_closure.proofs.Adopting.AddedItems.{adds_step, none_distinct}
use Rattle.ix_closure.proofs.Small.SmallStates.{nothing_begun_tidy, nothing_ended_tidy}
use Rattle.ix_closure.proofs.laws.missing_steps_are_owed.Goals as goal

unclaimed : IsRecorded nothing_begun.banks (fact.Claim 0 0 0) → ⊥
unclaimed = search rules

pub returns-clause-begun : goal.returns-clause-begun
returns-clause-begun c = record {
  exact = λ step. (
    λ h. (nothing_begun_tidy.balanced.caused step h, λ r. unclaimed (subst (λ (o : Owed). IsRecorded nothing_begun.banks (fact_of o)) (sym (one_has (Claim 0 0 0) step h)) r)),
    nothing_begun_tidy.balanced.missing step,
  );
  once = (adds_step [] (Claim 0 0 0 ∷ []) (Claim 0 0 0) refl).once (none_distinct same_step);
}

pub returns-clause-ended : goal.returns-clause-ended
returns-clause-ended c = record {
  exact = λ step. (λ h. absurd (none_has step h), nothing_ended_tidy.balanced.missing step);
  once = none_distinct same_step;
}

pub returns-clause-forgotten : goal.returns-clause-forgotten
returns-clause-forgotten c = λ h. none_has (Claim 0 0 0) ((h.exact (Claim 0 0 0)).1 (claim 0 0 0 (1, omega arith, refl), unclaimed))

pub returns-clause-recorded : goal.returns-clause-recorded
returns-clause-recorded c = λ h. ((h.exact (End 0 0 0)).0 (first_has (End 0 0 0) [])).1 (4, omega arith, refl)

pub returns-clause-twice : goal.returns-clause-twice
unfolding IsDistinct
returns-clause-twice c = λ h. cc h.once.0.0
