-- What is recorded at the opening, which is balanced and tidy.
use Rattle.std.proofs.Common.{◌≡◌, ◌==◌, ℕ, ◌≤◌, Bool, true, false, cond, List, [], append-nil, Contains, refl, sym, ap, ◌∙◌, subst, ◌⊎◌, inl, inr, arith}
use Rattle.std.specs.List.{range_with_len}
use Rattle.ix_model.specs.Expansion.Parts.{Parts}
use Rattle.ix_model.specs.Expansion.Planned.{IsPlanned}
use Rattle.ix_cluster.specs.declared.fact.Fact.{Fact}
use Rattle.ix_cluster.specs.declared.fact.Fact.TheVariants as fact
use Rattle.ix_cluster.specs.Banks.{opening, opening_bank, facts_of}
use Rattle.ix_cluster.specs.Firsts.{firsts_of}
use Rattle.ix_cluster.specs.Homes.{home}
use Rattle.ix_cluster.specs.Seen.{Bank}
use Rattle.ix_cluster.specs.Sound.{AreSound}
use Rattle.ix_cluster.specs.Steps.{after_call}
use Rattle.ix_cluster.proofs.Calls.{IsBegun, call-there, call-from, call-desc}
use Rattle.ix_cluster.proofs.Members.{none_has}
use Rattle.ix_closure.specs.declared.owed.Owed.{Owed}
use Rattle.ix_closure.specs.declared.owed.Owed.TheVariants.{Claim, End}
use Rattle.ix_closure.specs.Balance.{IsBalanced}
use Rattle.ix_closure.specs.Due.{IsRecorded, FollowsIn, claim, passed, inserted, waits, ends, meets}
use Rattle.ix_closure.specs.Follows.{fact_of, claims_at}
use Rattle.ix_closure.specs.Quantity.{times, givers}
use Rattle.ix_closure.specs.Seen.{State}
use Rattle.ix_closure.specs.Tidy.{IsTidy, IsOwedOnce}
use Rattle.ix_closure.proofs.Due.FirstSlots.{claims_once}
use Rattle.ix_closure.proofs.Lists.ListMembers.{map_has, map_from, flat_has, flat_from}
use Rattle.ix_closure.proofs.Tidying.OwedTimes.{times_none, times_once}
use Rattle.ix_closure.proofs.Tidying.TidyCauses.{HasCause, IsSingle, tidy_by, begun_cause}

module _ (plan : Parts) (state : State) (count : ℕ) (banks : state.banks ≡ opening plan count) where
  -- what is recorded at the start is the first call, or its alternatives began with it
  pub opened : (f : Fact) → IsRecorded state.banks f → ((fact.Called 0 0 ≡ f) ⊎ IsBegun plan 0 (firsts_of plan 0) f) × IsRecorded state.banks (fact.Called 0 0)
  opened f h =
      let bank = flat_from (λ (b : Bank). b.log) state.banks f h in
      let number = map_from (opening_bank plan count) (range_with_len 0 count) bank.0 (subst (λ bs. Contains bs bank.0) banks bank.1) in
      by bank.0 bank.1 (number.0 == home 0 0 count) (sym (ap (λ (b : Bank). b.log) number.2)) bank.2
    where
      by : (bank : Bank) → Contains state.banks bank → (b : Bool) → bank.log ≡ cond b (after_call plan [] 0 0) [] → Contains bank.log f → ((fact.Called 0 0 ≡ f) ⊎ IsBegun plan 0 (firsts_of plan 0) f) × IsRecorded state.banks (fact.Called 0 0)
      by bank there false e c = absurd (none_has f (subst (λ log. Contains log f) e c))
      by bank there true e c = (
        elim (call-from plan [] 0 0 f (subst (λ log. Contains log f) e c)) [ inl none ↦ absurd (none_has f none) | inr w ↦ w.1 ],
        flat_has (λ (b : Bank). b.log) state.banks bank (fact.Called 0 0) there (subst (λ log. Contains log (fact.Called 0 0)) (sym e) (call-there plan [] 0 0)),
      )

  -- no claim, and no edge
  pub no_claim : (s l p : ℕ) → ¬ (IsRecorded state.banks (fact.Claim s l p))
  unfolding IsBegun
  no_claim s l p h = elim (opened (fact.Claim s l p) h).0 [ inl e ↦ cc e | inr b ↦ elim b.2 [ inl e ↦ cc e | inr e ↦ cc (e.1) ] ]

  pub no_edge : (r k s l : ℕ) → ¬ (IsRecorded state.banks (fact.Edge r k s l))
  unfolding IsBegun
  no_edge r k s l h = elim (opened (fact.Edge r k s l) h).0 [ inl e ↦ cc e | inr b ↦ elim b.2 [ inl e ↦ cc e | inr e ↦ cc (e.1) ] ]

-- ---- one bank is balanced

module _ (plan : Parts) (state : State) (banks : state.banks ≡ opening plan 1) (owed : state.owed ≡ claims_at 0 (firsts_of plan 0)) (sound : AreSound plan state.banks) where
  call_recorded : (f : Fact) → Contains (after_call plan [] 0 0) f → IsRecorded state.banks f
  call_recorded f h = subst (λ (z : List Fact). Contains z f) (sym (ap facts_of banks ∙ append-nil (after_call plan [] 0 0))) h

  desc_owed : (s l p : ℕ) → IsRecorded state.banks (fact.Desc s l p) → Contains (claims_at 0 (firsts_of plan 0)) (Claim s l p)
  unfolding IsBegun
  desc_owed s l p h = elim (opened plan state 1 banks (fact.Desc s l p) h).0 [
    | inl e ↦ absurd (cc e)
    | inr b ↦ elim b.2 [
      | inl e ↦ let q : Claim b.0 0 0 ≡ Claim s l p = (cc e) in subst (Contains (claims_at 0 (firsts_of plan 0))) q (map_has (λ n. Claim n 0 0) (firsts_of plan 0) b.0 b.1)
      | inr e ↦ absurd (cc (e.1))
    ]
  ]

  due_owed : (o : Owed) → FollowsIn plan state.banks o → Contains (claims_at 0 (firsts_of plan 0)) o
  due_owed o (claim s l p h) = desc_owed s l p h
  due_owed o (passed s l p after e x h n t) = absurd (no_claim plan state 1 banks s l p h)
  due_owed o (inserted s l p after n h next) = absurd (no_claim plan state 1 banks s l p h)
  due_owed o (waits s l p after r mark h next) = absurd (no_claim plan state 1 banks s l p h)
  due_owed o (ends s l p r h last) = absurd (no_claim plan state 1 banks s l p h)
  due_owed o (meets r k s l e after mark edge end next) = absurd (no_edge plan state 1 banks r k s l edge)

  owed_due : (o : Owed) → Contains (claims_at 0 (firsts_of plan 0)) o → FollowsIn plan state.banks o
  owed_due o h =
      let z = map_from (λ n. Claim n 0 0) (firsts_of plan 0) o h in
      subst (FollowsIn plan state.banks) z.2 (claim z.0 0 0 (call_recorded (fact.Desc z.0 0 0) (call-desc plan [] 0 0 refl z.0 z.1)))

  pub opening_balanced : IsBalanced plan state
  opening_balanced = record {
    sound = sound;
    missing = λ o m. subst (λ (z : List Owed). Contains z o) (sym owed) (due_owed o m.0);
    caused = λ o h. owed_due o (subst (λ (z : List Owed). Contains z o) owed h);
  }

-- ---- balanced banks are tidy

module _ (plan : Parts) (planned : IsPlanned plan) (state : State) (count : ℕ) (banks : state.banks ≡ opening plan count) (owed : state.owed ≡ claims_at 0 (firsts_of plan 0)) where
  caused : (f : Fact) → IsRecorded state.banks f → HasCause plan state f
  caused f h =
      let here = opened plan state count banks f h in
      elim here.0 [
        | inl e ↦ subst (HasCause plan state) e tt
        | inr begun ↦ begun_cause plan planned state 0 0 here.1 f begun
      ]

  owed_claim : (x : Owed) → Contains state.owed x → (s : ℕ) × Contains (firsts_of plan 0) s × (Claim s 0 0 ≡ x)
  owed_claim x c = map_from (λ s. Claim s 0 0) (firsts_of plan 0) x (subst (λ steps. Contains steps x) owed c)

  once : (x : Owed) → IsSingle x → Contains state.owed x → IsOwedOnce state x
  once x single c = (
    ap (λ steps. times steps x) owed ∙ times_once (claims_at 0 (firsts_of plan 0)) x (claims_once plan planned 0 0) (subst (λ steps. Contains steps x) owed c),
    (let claim = owed_claim x c in λ h. no_claim plan state count banks claim.0 0 0 (subst (λ y. IsRecorded state.banks (fact_of y)) (sym claim.2) h)),
  )

  no_end : (r k e : ℕ) → times state.owed (End r k e) ≤ givers plan (facts_of state.banks) r k e
  no_end r k e = omega (arith, times_none state.owed (End r k e) (λ c. let claim = owed_claim (End r k e) c in let same = claim.2 in cc))

  pub opening_tidy : IsBalanced plan state → IsTidy plan state
  opening_tidy balanced = tidy_by plan state balanced caused once no_end
