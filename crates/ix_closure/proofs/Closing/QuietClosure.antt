-- A balanced state in which nothing is owed has recorded exactly the closure.
use Rattle.std.proofs.Common.{◌≡◌, ℕ, ◌<◌, List, [], length, get_or, Contains, refl, subst, ◌⊎◌, inl, inr, arith}
use Rattle.std.proofs.lemmas.Bool.{cases_Bool}
use Rattle.std.proofs.lemmas.List.{nil_from_length}
use Rattle.std.proofs.lemmas.Option.{slice_get-get_or}
use Rattle.ix_model.specs.Closure.Useful.{sub_at}
use Rattle.ix_model.specs.Closure.Closed as closed
use Rattle.ix_model.specs.Expansion.Parts.{Parts}
use Rattle.ix_cluster.specs.declared.fact.Fact.{Fact}
use Rattle.ix_cluster.specs.declared.fact.Fact.TheVariants as fact
use Rattle.ix_cluster.specs.Banks.{facts_of}
use Rattle.ix_cluster.specs.ClosedFacts.{IsInClosed}
use Rattle.ix_cluster.specs.Facts.{has}
use Rattle.ix_cluster.specs.Homes.{home}
use Rattle.ix_cluster.specs.Seen.{Bank}
use Rattle.ix_cluster.specs.Sound.{AreSound, HasCompanions}
use Rattle.ix_cluster.proofs.Members.{none_has, has-Contains, Contains-has}
use Rattle.ix_closure.specs.declared.owed.Owed.{Owed}
use Rattle.ix_closure.specs.declared.owed.Owed.TheVariants as step
use Rattle.ix_closure.specs.Balance.{IsBalanced}
use Rattle.ix_closure.specs.Closure.{IsClosure}
use Rattle.ix_closure.specs.Due.{IsRecorded, FollowsIn, claim, passed, inserted, waits, ends, meets}
use Rattle.ix_closure.specs.Follows.{fact_of}
use Rattle.ix_closure.specs.Seen.{State}
use Rattle.ix_closure.proofs.Weighing.FactsOnce.{facts_once}
use Rattle.ix_closure.proofs.Balancing.RecordedFacts.{recorded_in, recorded_by, recorded_closed}

-- a fact is recorded or not
pub recorded_or_not : (banks : List Bank) (f : Fact) → IsRecorded banks f ⊎ (IsRecorded banks f → ⊥)
recorded_or_not banks f = elim (cases_Bool (has (facts_of banks) f)) [
  | inl h ↦ inl (Contains-has (facts_of banks) f h)
  | inr n ↦ inr (λ h. absurd (cc (has-Contains (facts_of banks) f h, n)))
]

-- sound banks have the call of the first rule at the start
first_called : (plan : Parts) (banks : List Bank) → AreSound plan banks → IsRecorded banks (fact.Called 0 0)
first_called plan banks sound =
    let h : home 0 0 (length banks) < length banks = grind (arith, sound.some) in
    let no_bank : Bank = record { log = []; handed = 0 } in
    let there = slice_get-get_or banks (home 0 0 (length banks)) no_bank h in
    let bank : Bank = get_or banks (home 0 0 (length banks)) no_bank in
    recorded_by banks (home 0 0 (length banks)) bank (fact.Called 0 0) there ((sound.each (home 0 0 (length banks)) bank there).opened refl)

module _ (plan : Parts) (state : State) (balanced : IsBalanced plan state) (quiet : state.owed ≡ []) where
  -- what is due is recorded
  recorded : (o : Owed) → FollowsIn plan state.banks o → IsRecorded state.banks (fact_of o)
  recorded o due = elim (recorded_or_not state.banks (fact_of o)) [
    | inl h ↦ h
    | inr n ↦ absurd (none_has o (subst (λ (z : List Owed). Contains z o) quiet (balanced.missing o (due, n))))
  ]

  claimed : (s l p : ℕ) → IsRecorded state.banks (fact.Desc s l p) → IsRecorded state.banks (fact.Claim s l p)
  claimed s l p h = recorded (step.Claim s l p) (claim s l p h)

  module _ (f : Fact) (h : IsRecorded state.banks f) where
    -- the companions of a recorded fact stand in its bank
    beside : (bank : Bank) × HasCompanions plan bank.log × Contains bank.log f × ((g : Fact) → Contains bank.log g → IsRecorded state.banks g)
    beside =
        let p = recorded_in state.banks f h in
        (p.1, (balanced.sound.each p.0 p.1 p.2).companions, p.3, λ g k. recorded_by state.banks p.0 p.1 g p.2 k)

  mutual
    called : (r k : ℕ) → closed.Called plan r k → IsRecorded state.banks (fact.Called r k)
    called r k closed.start = first_called plan state.banks balanced.sound
    called r k (closed.by_edge _ _ s l e) = let b = beside (fact.Edge r k s l) (edge r k s l e) in b.3 (fact.Called r k) (b.1.edges r k s l b.2)

    desc : (s l p : ℕ) → closed.Desc plan s l p → IsRecorded state.banks (fact.Desc s l p)
    desc s l p (closed.begun r _ _ c first) = let b = beside (fact.Called r l) (called r l c) in b.3 (fact.Desc s l l) (b.1.alternatives r l s b.2 first)
    desc s l p (closed.arrived _ _ k _ h) = let b = beside (fact.Part (sub_at s l k p)) (part s l k p h) in b.3 (fact.Desc s l p) (b.1.parts (sub_at s l k p) b.2)

    edge : (r k s l : ℕ) → closed.Edge plan r k s l → IsRecorded state.banks (fact.Edge r k s l)
    edge r k s l (closed.waiting _ _ _ after _ mark d next) = recorded (step.Edge r k s l) (waits s l k after r mark (claimed s l k (desc s l k d)) next)

    end : (r l e : ℕ) → closed.End plan r l e → IsRecorded state.banks (fact.End r l e)
    end r l e (closed.ended s _ _ _ d last) = recorded (step.End r l e) (ends s l e r (claimed s l e (desc s l e d)) last)

    part : (s l k e : ℕ) → closed.Part plan s l k e → IsRecorded state.banks (fact.Part (sub_at s l k e))
    part s l k e (closed.empty r _ _ c first last) = let b = beside (fact.Called r l) (called r l c) in b.3 (fact.Part (sub_at s l l l)) (b.1.empties r l s b.2 first last)
    part s l k e (closed.scanned q _ _ _ _ x d next t) = recorded (step.Arrive (sub_at s l k e)) (passed q l k s e x (claimed q l k (desc q l k d)) next t)
    part s l k e (closed.inserted q _ _ _ n d next) = recorded (step.Arrive (sub_at s l k k)) (inserted q l k s n (claimed q l k (desc q l k d)) next)
    part s l k e (closed.joined r _ q _ _ _ mark a b next) = recorded (step.Arrive (sub_at s l k e)) (meets r k q l e s mark (edge r k q l a) (end r k e b) next)

  -- each fact of the closure is recorded, and so is the claim of each descriptor
  all_recorded : (f : Fact) → IsInClosed plan f → IsRecorded state.banks f
  all_recorded (fact.Called r k) h = called r k h
  all_recorded (fact.Edge r k s l) h = edge r k s l h
  all_recorded (fact.End r k e) h = end r k e h
  all_recorded (fact.Desc s l p) h = desc s l p h
  all_recorded (fact.Part sub) h = part sub.slot sub.left sub.pivot sub.right h
  all_recorded (fact.Claim s l p) h = claimed s l p (desc s l p h)

-- so the state has the closure
pub quiet_closure : (plan : Parts) (state : State) → IsBalanced plan state → length state.owed ≡ 0 → IsClosure plan (facts_of state.banks)
quiet_closure plan state balanced e = record {
  closed = recorded_closed plan state.banks balanced.sound;
  all = all_recorded plan state balanced (nil_from_length state.owed e);
  once = facts_once plan state.banks balanced.sound;
}
