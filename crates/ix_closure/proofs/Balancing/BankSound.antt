-- A step keeps its bank sound.
use Rattle.std.proofs.Common.{◌≡◌, ℕ, ◌+◌, ◌<◌, length, refl, arith}
use Rattle.ix_model.specs.Expansion.Parts.{Parts}
use Rattle.ix_model.specs.Expansion.Planned.{IsPlanned}
use Rattle.ix_closure_laws.proofs.ClosedWithin.{edge_within}
use Rattle.ix_cluster.specs.declared.limits.TheConstants.{FACT_LIMIT}
use Rattle.ix_cluster.specs.ClosedFacts.{IsInClosed}
use Rattle.ix_cluster.specs.Room.{unclaimed_in}
use Rattle.ix_cluster.specs.Seen.{Bank}
use Rattle.ix_cluster.specs.Sound.{IsSoundBank}
use Rattle.ix_cluster.specs.Steps.{end_answer, edge_answer}
use Rattle.ix_cluster.proofs.Soundness.{sound-claim, sound-arrival, sound-end, sound-edge}
use Rattle.ix_closure.specs.declared.owed.Owed.{Owed}
use Rattle.ix_closure.specs.declared.owed.Owed.TheVariants.{Claim, Edge, End, Arrive}
use Rattle.ix_closure.specs.Events.{log_after, bank_after, home_for}
use Rattle.ix_closure.specs.Follows.{fact_of}

module _ (plan : Parts) (planned : IsPlanned plan) (count m : ℕ) (bank : Bank) where
  pub bank_sound : (o : Owed) → IsInClosed plan (fact_of o) → home_for plan count o ≡ m → length (log_after plan bank.log o) + unclaimed_in (log_after plan bank.log o) < FACT_LIMIT → IsSoundBank plan count m bank → IsSoundBank plan count m (bank_after plan bank o)
  bank_sound (Claim s l p) closed home bounded sound = sound-claim plan count m bank (bank_after plan bank (Claim s l p)) s l p refl (omega arith) bounded sound
  bank_sound (Edge r k s l) closed home bounded sound =
      sound-edge plan count m planned bank (bank_after plan bank (Edge r k s l)) r k s l (edge_answer bank.log r k s l) (edge_within plan planned r k s l closed).0 refl refl refl bounded home closed sound
  bank_sound (End r k e) closed home bounded sound = sound-end plan count m bank (bank_after plan bank (End r k e)) r k e (end_answer bank.log r k e) refl refl refl bounded home closed sound
  bank_sound (Arrive sub) closed home bounded sound = sound-arrival plan count m bank (bank_after plan bank (Arrive sub)) sub refl (omega arith) bounded home closed sound
