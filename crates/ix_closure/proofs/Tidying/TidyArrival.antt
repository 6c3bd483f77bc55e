-- An arrival keeps a state tidy.
use Rattle.std.proofs.Common.{◌≡◌, ℕ, Bool, true, false, cond, List, Contains, refl, sym, subst, inr}
use Rattle.ix_model.specs.declared.sub.Sub.{Sub}
use Rattle.ix_model.specs.Expansion.Parts.{Parts}
use Rattle.ix_model.specs.Expansion.Planned.{IsPlanned}
use Rattle.ix_cluster.specs.declared.answers.Arrived.TheVariants.{Fresh, Known}
use Rattle.ix_cluster.specs.declared.fact.Fact.{Fact}
use Rattle.ix_cluster.specs.declared.fact.Fact.TheVariants as fact
use Rattle.ix_cluster.specs.Facts.{has, put}
use Rattle.ix_cluster.proofs.Members.{one_has, none_has, put-keeps, put-there}
use Rattle.ix_closure.specs.declared.owed.Owed.{Owed}
use Rattle.ix_closure.specs.declared.owed.Owed.TheVariants.{Claim, End, Arrive}
use Rattle.ix_closure.specs.Balance.{IsBalanced}
use Rattle.ix_closure.specs.Due.{IsRecorded}
use Rattle.ix_closure.specs.Follows.{fresh_claim}
use Rattle.ix_closure.specs.Seen.{State}
use Rattle.ix_closure.specs.Tidy.{IsTidy}
use Rattle.ix_closure.proofs.Due.DueCauses.{arrival_not_first}
use Rattle.ix_closure.proofs.Due.NewlyDue.{due_grows}
use Rattle.ix_closure.proofs.Due.StepLogs.{IsBeside, has_none}
use Rattle.ix_closure.proofs.Tidying.TidyCauses.{HasCause, IsSingle, IsKnown, IsBroughtOnce, brought_alone}
use Rattle.ix_closure.proofs.Tidying.TidyKnown.{claim_known}
use Rattle.ix_closure.proofs.Tidying.TidyStep.{IsDone, tidy_after, ends_kept}

module _ (plan : Parts) (planned : IsPlanned plan) (old new : State) (n : ℕ) (log : List Fact) (sub : Sub) (more : List Owed)
    (done : IsDone plan old new n log (Arrive sub) more) (tidy : IsTidy plan old) where
  -- the subtree is recorded
  recorded : IsRecorded new.banks (fact.Part sub)
  recorded = done.moves.made (fact.Part sub) (put-keeps (put log (fact.Part sub)) (fact.Desc sub.slot sub.left sub.right) (fact.Part sub) (put-there log (fact.Part sub)))

  -- its descriptor has it as its cause
  beside : (f : Fact) → IsBeside plan log (Arrive sub) f → HasCause plan new f
  unfolding IsBeside
  beside f b = subst (HasCause plan new) b.1 (
    (λ r first. absurd (arrival_not_first plan planned (IsRecorded old.banks) sub done.due r first)),
    (λ other. (sub.pivot, recorded)),
  )

  -- the claim of a new descriptor was not known
  claim_new : has log (fact.Desc sub.slot sub.left sub.right) ≡ false → ¬ (IsKnown old (Claim sub.slot sub.left sub.right))
  claim_new e known = has_none log (fact.Desc sub.slot sub.left sub.right) e (done.moves.here (fact.Desc sub.slot sub.left sub.right) refl (claim_known plan planned old tidy.balanced sub.slot sub.left sub.right known))

  -- what it brings is owed once, and was not known
  brought : (x : Owed) → IsSingle x → Contains more x → IsBroughtOnce old more x
  brought x single c = by (has log (fact.Desc sub.slot sub.left sub.right)) refl done.follows
    where
      by : (b : Bool) → has log (fact.Desc sub.slot sub.left sub.right) ≡ b → more ≡ fresh_claim (cond b Known Fresh) sub → IsBroughtOnce old more x
      by true e w = absurd (none_has x (subst (λ steps. Contains steps x) w c))
      by false e w = subst (λ steps. IsBroughtOnce old steps x) (sym w) (brought_alone old (Claim sub.slot sub.left sub.right) x (claim_new e) (subst (λ steps. Contains steps x) w c))

  -- it brings no end
  no_end : (r k e : ℕ) → ¬ (Contains more (End r k e))
  no_end r k e c = by (has log (fact.Desc sub.slot sub.left sub.right)) done.follows
    where
      by : (b : Bool) → more ≡ fresh_claim (cond b Known Fresh) sub → ⊥
      by true w = none_has (End r k e) (subst (λ steps. Contains steps (End r k e)) w c)
      by false w = let same = one_has (Claim sub.slot sub.left sub.right) (End r k e) (subst (λ steps. Contains steps (End r k e)) w c) in cc

  pub arrive_tidy : IsBalanced plan new → IsTidy plan new
  arrive_tidy balanced =
      tidy_after plan planned old new n log (Arrive sub) more done tidy balanced (inr (due_grows plan (IsRecorded old.banks) (IsRecorded new.banks) done.moves.grows (Arrive sub) done.due))
      beside brought (ends_kept plan planned old new n log (Arrive sub) more done no_end)
