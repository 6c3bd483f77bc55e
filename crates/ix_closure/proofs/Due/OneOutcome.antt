-- What a step brings, what it leads to, and where choices lead is one thing.
use Rattle.std.proofs.Common.{◌≡◌, ℕ, List, [], ◌∷◌, ◌++◌, length, length-append, remove, slice_set, refl, sym, ap, ◌∙◌, subst, ◌⊎◌, inl, inr, arith}
use Rattle.ix_model.specs.Expansion.Parts.{Parts}
use Rattle.ix_model.specs.Expansion.Planned.{IsPlanned}
use Rattle.ix_cluster.specs.declared.answers.Claimed.{Claimed}
use Rattle.ix_cluster.specs.declared.answers.Claimed.TheVariants.{Mine, Taken, Unknown}
use Rattle.ix_cluster.specs.declared.fact.Fact.{Fact}
use Rattle.ix_cluster.specs.Seen.{Bank}
use Rattle.ix_cluster.specs.Steps.{claim_answer}
use Rattle.ix_closure.specs.declared.owed.Owed.{Owed}
use Rattle.ix_closure.specs.declared.owed.Owed.TheVariants.{Claim, Edge, End, Arrive}
use Rattle.ix_closure.specs.Events.{Event, bank_after, home_for}
use Rattle.ix_closure.specs.Follows.{FollowsClaim, Follows}
use Rattle.ix_closure.specs.Runs.{Run, rests, goes_on}
use Rattle.ix_closure.specs.Seen.{State}
use Rattle.ix_closure.proofs.Due.DescriptorSteps.{follows_same}

module _ (plan : Parts) (planned : IsPlanned plan) where
  claim_once : (claimed : Claimed) (s l p : ℕ) (a b : List Owed) → FollowsClaim plan claimed s l p a → FollowsClaim plan claimed s l p b → a ≡ b
  claim_once Mine s l p a b v w = follows_same plan planned s l p a b v w
  claim_once Taken s l p a b v w = v ∙ sym w
  claim_once Unknown s l p a b v w = v ∙ sym w

  -- a step brings one list of steps
  pub follows_once : (log : List Fact) (step : Owed) (a b : List Owed) → Follows plan log step a → Follows plan log step b → a ≡ b
  follows_once log (Claim s l p) a b v w = claim_once (claim_answer log s l p) s l p a b v w
  follows_once log (Edge r k s l) a b v w = v ∙ sym w
  follows_once log (End r k e) a b v w = v ∙ sym w
  follows_once log (Arrive sub) a b v w = v ∙ sym w

  -- an event has one outcome
  pub event_once : (old : State) (n : ℕ) (a b : State) → Event plan old n a → Event plan old n b → a ≡ b
  event_once old n a b v w = λ i. record { banks = banks i; owed = owed i }
    where
      step : v.step ≡ w.step
      step = cc (v.taken, w.taken)

      bank : v.bank ≡ w.bank
      bank = cc (v.there, w.there, step)

      banks : a.banks ≡ b.banks
      banks = v.done ∙ (λ i. slice_set old.banks (home_for plan (length old.banks) (step i)) (bank_after plan (bank i) (step i))) ∙ sym w.done

      follows : Follows plan w.bank.log w.step v.more
      follows = subst (λ (x : Owed). Follows plan w.bank.log x v.more) step (subst (λ (x : Bank). Follows plan x.log v.step v.more) bank v.follows)

      owed : a.owed ≡ b.owed
      owed = v.owed ∙ ap (λ (more : List Owed). remove old.owed n ++ more) (follows_once w.bank.log w.step v.more w.more follows w.follows) ∙ sym w.owed

-- ---- choices

-- lists with one more element are the same where both parts are
pub one_more : {X : Type 0} (xs ys : List X) (x y : X) → xs ++ x ∷ [] ≡ ys ++ y ∷ [] → (xs ≡ ys) × (x ≡ y)
one_more [] [] x y e = (refl, cc e)
one_more [] (z ∷ ys) x y e = absurd (omega (arith, ap length e, length-append ys (y ∷ [])))
one_more (z ∷ xs) [] x y e = absurd (omega (arith, ap length e, length-append xs (x ∷ [])))
one_more (z ∷ xs) (w ∷ ys) x y e =
    let rest = one_more xs ys x y (cc e) in
    let head : z ≡ w = cc e in
    ((λ i. head i ∷ rest.0 i), rest.1)

module _ (plan : Parts) (planned : IsPlanned plan) (first : State) where
  -- the last of the choices
  record Last (choices : List ℕ) (last : State) : Type 0 where
    before : List ℕ
    n : ℕ
    middle : State
    chosen : choices ≡ before ++ n ∷ []
    run : Run plan first before middle
    event : Event plan middle n last

  last_of : (choices : List ℕ) (last : State) → Run plan first choices last → ((choices ≡ []) × (last ≡ first)) ⊎ Last choices last
  last_of choices last rests = inl (refl, refl)
  last_of choices last (goes_on before n middle _ run event) = inr (record { before = before; n = n; middle = middle; chosen = refl; run = run; event = event })

  pub run_once : (choices : List ℕ) (a b : State) → Run plan first choices a → Run plan first choices b → a ≡ b
  run_once choices a b rests w = elim (last_of choices b w) [
    | inl e ↦ sym e.1
    | inr more ↦ absurd (omega (arith, ap length more.chosen, length-append more.before (more.n ∷ [])))
  ]
  run_once choices a b (goes_on before n middle _ run event) w = elim (last_of choices b w) [
    | inl e ↦ absurd (omega (arith, ap length e.0, length-append before (n ∷ [])))
    | inr more ↦
        let same = one_more before more.before n more.n more.chosen in
        let there : middle ≡ more.middle = run_once before middle more.middle run (subst (λ (c : List ℕ). Run plan first c more.middle) (sym same.0) more.run) in
        event_once plan planned more.middle more.n a b (subst (λ (z : ℕ). Event plan more.middle z a) same.1 (subst (λ (s : State). Event plan s n a) there event)) more.event
  ]
