-- What the first worker owes at the start.
use Rattle.std.proofs.Common.{◌≡◌, List, Contains, refl, subst}
use Rattle.ix_model.specs.Closure.Closed as closed
use Rattle.ix_model.specs.Expansion.Parts.{Parts}
use Rattle.ix_model.specs.Expansion.Planned.{IsPlanned}
use Rattle.ix_cluster.specs.Banks.{opening, facts_of}
use Rattle.ix_cluster.specs.ClosedFacts.{IsInClosed}
use Rattle.ix_cluster.specs.Firsts.{firsts_of}
use Rattle.ix_closure.specs.declared.owed.Owed.{Owed}
use Rattle.ix_closure.specs.declared.owed.Owed.TheVariants.{Claim}
use Rattle.ix_closure.specs.Follows.{fact_of, claims_at, claims_for}
use Rattle.ix_closure.proofs.Due.FirstSlots.{first_of}
use Rattle.ix_closure.proofs.Lists.ListMembers.{map_from}
use Rattle.ix_closure.proofs.Tidying.FirstClaims.{opening_in_order}
use Rattle.ix_settled_laws.specs.Owing.{OwesClosed}

module _ (plan : Parts) (planned : IsPlanned plan) (owed : List Owed) (is : owed ≡ claims_at 0 (firsts_of plan 0)) where
  -- the facts of 64 banks at the start are those of one: only one of them has any
  pub first_claims : owed ≡ claims_for (facts_of (opening plan 64))
  first_claims = opening_in_order plan planned (record { banks = opening plan 1; owed = owed }) refl is

  pub first_closed : OwesClosed plan owed
  first_closed step h =
      let z = map_from (λ n. Claim n 0 0) (firsts_of plan 0) step (subst (λ (l : List Owed). Contains l step) is h) in
      subst (λ (x : Owed). IsInClosed plan (fact_of x)) z.2 (closed.begun 0 0 z.0 closed.start (first_of plan planned 0 z.0 z.1))
