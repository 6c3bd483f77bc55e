-- Where faithful workers owe nothing and answer for each entry, nothing is missing.
use Rattle.std.proofs.Common.{◌≡◌, ◌≢◌, ◌⊎◌, ℕ, suc, ◌<◌, ◌≤◌, List, [], ◌∷◌, length, take, get_or, Contains, Option, Some, slice_get, refl, sym, ap, ◌∙◌, subst, inl, inr, arith, lt_of_not-le}
use native.Mathlib.Decide.{dec_le}
use Rattle.std.proofs.lemmas.Bool.{cases_eq}
use Rattle.std.proofs.lemmas.Option.{slice_get-get_or}
use Rattle.ix_model.specs.Closure.Useful.{sub_at}
use Rattle.ix_model.specs.declared.grammar.Mark.{Mark}
use Rattle.ix_model.specs.declared.rules.Sym.TheVariants as sy
use Rattle.ix_model.specs.Expansion.Parts.{Parts}
use Rattle.ix_model.specs.Expansion.SlotPlaces.{HasNext}
use Rattle.ix_cluster.specs.declared.fact.Fact.{Fact}
use Rattle.ix_cluster.specs.declared.fact.Fact.TheVariants as fact
use Rattle.ix_cluster.specs.Banks.{facts_of}
use Rattle.ix_cluster.specs.Homes.{home, home_of}
use Rattle.ix_cluster.specs.Seen.{Bank}
use Rattle.ix_cluster.specs.Sound.{AreSound}
use Rattle.ix_cluster.proofs.Members.{none_has, first_has}
use Rattle.ix_closure.specs.declared.owed.Owed.{Owed}
use Rattle.ix_closure.specs.declared.owed.Owed.TheVariants.{Claim, Edge, End, Arrive}
use Rattle.ix_closure.specs.Closure.{IsClosure}
use Rattle.ix_closure.specs.Due.{IsDue, IsRecorded, IsMissing, claim, passed, inserted, waits, ends, meets}
use Rattle.ix_closure.specs.Follows.{fact_of}
use Rattle.ix_closure.specs.Follows as follows
use Rattle.ix_closure.proofs.Due.DescriptorSteps.{follows_due}
use Rattle.ix_closure.proofs.Lists.ListMembers.{place_in}
use Rattle.ix_closure.proofs.Balancing.RecordedFacts.{recorded_in, recorded_by, recorded_here}
use Rattle.ix_closure.proofs.Closing.QuietClosure.{recorded_or_not, quiet_closure}
use Rattle.ix_rows.specs.Beginnings.{Begins}
use Rattle.ix_rows.specs.Logs.{log_at}
use Rattle.ix_settled_laws.specs.Brought.{IsBrought}
use Rattle.ix_settled_laws.specs.Faithful.{IsFaithful}
use Rattle.ix_settled_laws.specs.Laws.{AreDone}
use Rattle.ix_settled_laws.specs.Settled.{IsSettled, HaveWhatFollows}
use Rattle.ix_settled_laws.specs.Workers.{Worker, IsKnown}
use Rattle.ix_settled_laws.proofs.Entries.{entry_same, before_same, begins_has, before_there}

-- each fact has a bank as its home
pub home_below : (plan : Parts) (count : ℕ) (f : Fact) → 0 < count → home_of plan count f < count
home_below plan count (fact.Called r k) some' = grind (arith, some')
home_below plan count (fact.Edge r k s l) some' = grind (arith, some')
home_below plan count (fact.End r k e) some' = grind (arith, some')
home_below plan count (fact.Desc s l p) some' = grind (arith, some')
home_below plan count (fact.Part sub) some' = grind (arith, some')
home_below plan count (fact.Claim s l p) some' = grind (arith, some')

-- of two numbers one is smaller, or they are one
either_first : (j k : ℕ) → (j ≡ k) ⊎ ((j < k) ⊎ (k < j))
either_first j k = by (cases_eq j k) (dec_le (suc j) k)
  where
    by : (j ≡ k) ⊎ (j ≢ k) → Dec (suc j ≤ k) → (j ≡ k) ⊎ ((j < k) ⊎ (k < j))
    by (inl e) d = inl e
    by (inr o) (yes d) = inr (inl (omega (arith, d)))
    by (inr o) (no d) = inr (inr (let h = lt_of_not-le d in omega (arith, h, o)))

module _ (plan : Parts) (banks : List Bank) (sound : AreSound plan banks) where
  -- an entry of a bank's log brings the step
  abbrev Comes : Owed → Type 0
  Comes x = (m : ℕ) × (k : ℕ) × (bank : Bank) × (f : Fact) × (slice_get banks m ≡ Some bank) × (slice_get bank.log k ≡ Some f) × IsBrought plan (take k bank.log) f x

  -- a recorded fact is an entry
  comes_by : (f : Fact) (x : Owed) → IsRecorded banks f → ((before : List Fact) → IsBrought plan before f x) → Comes x
  comes_by f x h brought =
      let p = recorded_in banks f h in
      let q = place_in p.1.log f p.3 in
      (p.0, q.0, p.1, f, p.2, q.1, brought (take q.0 p.1.log))

  comes_together : (r k s l e after : ℕ) (mark : Option Mark) → IsRecorded banks (fact.Edge r k s l) → IsRecorded banks (fact.End r k e) → HasNext plan s after (sy.Rule r mark) → Comes (Arrive (sub_at after l k e))
  comes_together r k s l e after mark edge end next =
      let p = recorded_in banks (fact.Edge r k s l) edge in
      let home : home r k (length banks) ≡ p.0 = (sound.each p.0 p.1 p.2).at_home (fact.Edge r k s l) p.3 in
      let q = place_in p.1.log (fact.Edge r k s l) p.3 in
      let o = place_in p.1.log (fact.End r k e) (recorded_here plan banks sound p.0 p.1 p.2 (fact.End r k e) home end) in
      elim (either_first q.0 o.0) [
        | inl is ↦ absurd (cc (q.1, o.1, ap (slice_get p.1.log) is))
        | inr apart ↦ elim apart [
          | inl first ↦ (p.0, o.0, p.1, fact.End r k e, p.2, o.1, (s, l, after, mark, before_there p.1.log q.0 o.0 (fact.Edge r k s l) first q.1, next, refl))
          | inr first ↦ (p.0, q.0, p.1, fact.Edge r k s l, p.2, q.1, (e, after, mark, before_there p.1.log o.0 q.0 (fact.End r k e) first o.1, next, refl))
        ]
      ]

  -- a step that is due is brought by an entry
  pub due_comes : (x : Owed) → IsDue plan (IsRecorded banks) x → Comes x
  due_comes x (claim s l p h) = comes_by (fact.Desc s l p) (Claim s l p) h (λ before. refl)
  due_comes x (passed s l p after e y h n t) = comes_by (fact.Claim s l p) (Arrive (sub_at after l p e)) h (λ before. follows.passes y after e n t)
  due_comes x (inserted s l p after n h next) = comes_by (fact.Claim s l p) (Arrive (sub_at after l p p)) h (λ before. follows.inserts n after next)
  due_comes x (waits s l p after r mark h next) = comes_by (fact.Claim s l p) (Edge r p s l) h (λ before. follows.calls r after mark next)
  due_comes x (ends s l p r h last) = comes_by (fact.Claim s l p) (End r l p) h (λ before. follows.ends r last)
  due_comes x (meets r k s l e after mark edge end next) = comes_together r k s l e after mark edge end next

  -- a fact that a worker knows is recorded
  known_recorded : (w : Worker) (f : Fact) → IsFaithful plan (length banks) w → ((m : ℕ) (bank : Bank) → slice_get banks m ≡ Some bank → Begins bank.log (log_at w.sight.known m)) → IsKnown w.sight f → IsRecorded banks f
  known_recorded w f faithful begin (m, h) =
      let is : home_of plan (length banks) f ≡ m = faithful.at_home m f h in
      let low : m < length banks = subst (λ (i : ℕ). i < length banks) is (home_below plan (length banks) f sound.some) in
      let no_bank : Bank = record { log = []; handed = 0 } in
      let there = slice_get-get_or banks m no_bank low in
      let bank : Bank = get_or banks m no_bank in
      recorded_by banks m bank f there (begins_has bank.log (log_at w.sight.known m) f (begin m bank there) h)

  module _ (workers : List Worker) (done : AreDone plan banks workers) where
    none_missing : (x : Owed) → IsMissing plan banks x → ⊥
    none_missing x (due, none) =
        let p = due_comes x due in
        let w = done.answered p.0 p.1 p.2 p.3 p.4 p.5 in
        let f = done.faithful w.0 w.1 in
        let begin = done.begin w.0 w.1 p.0 p.2 p.4 in
        let low = f.inside p.0 p.1 w.2 in
        let entry : slice_get (log_at w.0.sight.known p.0) p.1 ≡ Some p.3 = sym (entry_same p.2.log (log_at w.0.sight.known p.0) p.1 begin low) ∙ p.5 in
        let brought : IsBrought plan (take p.1 (log_at w.0.sight.known p.0)) p.3 x = subst (λ (l : List Fact). IsBrought plan l p.3 x) (before_same p.2.log (log_at w.0.sight.known p.0) p.1 begin low) p.6 in
        elim (f.covered p.0 p.1 p.3 x w.2 entry brought) [
          | inl o ↦ none_has x (subst (λ (l : List Owed). Contains l x) (done.nothing w.0 w.1) o)
          | inr k ↦ none (known_recorded w.0 (fact_of x) f (done.begin w.0 w.1) k)
        ]

    pub settles : IsSettled plan banks
    settles = record { sound = sound; none = none_missing }

-- ---- what settled banks have

module _ (plan : Parts) (banks : List Bank) where
  -- none is missing, so what is due is recorded
  due_recorded : ((step : Owed) → IsMissing plan banks step → ⊥) → (x : Owed) → IsDue plan (IsRecorded banks) x → IsRecorded banks (fact_of x)
  due_recorded none x due = elim (recorded_or_not banks (fact_of x)) [ inl h ↦ h | inr n ↦ absurd (none x (due, n)) ]

  pub has_what_follows : ((step : Owed) → IsMissing plan banks step → ⊥) → HaveWhatFollows plan banks
  has_what_follows none = record {
    claims = λ s l p h. due_recorded none (Claim s l p) (claim s l p h);
    brings = λ s l p more step h follow there. due_recorded none step (follows_due plan (IsRecorded banks) s l p more step h follow there);
    meets = λ r k s l e after mark edge end next. due_recorded none (Arrive (sub_at after l k e)) (meets r k s l e after mark edge end next);
  }

  due_had : HaveWhatFollows plan banks → (x : Owed) → IsDue plan (IsRecorded banks) x → IsRecorded banks (fact_of x)
  due_had have x (claim s l p h) = have.claims s l p h
  due_had have x (passed s l p after e y h n t) = have.brings s l p (x ∷ []) x h (follows.passes y after e n t) (first_has x [])
  due_had have x (inserted s l p after n h next) = have.brings s l p (x ∷ []) x h (follows.inserts n after next) (first_has x [])
  due_had have x (waits s l p after r mark h next) = have.brings s l p (x ∷ []) x h (follows.calls r after mark next) (first_has x [])
  due_had have x (ends s l p r h last) = have.brings s l p (x ∷ []) x h (follows.ends r last) (first_has x [])
  due_had have x (meets r k s l e after mark edge end next) = have.meets r k s l e after mark edge end next

  pub none_is_missing : HaveWhatFollows plan banks → (step : Owed) → IsMissing plan banks step → ⊥
  none_is_missing have step (due, none) = none (due_had have step due)

  pub settled_closure : IsSettled plan banks → IsClosure plan (facts_of banks)
  settled_closure settled = quiet_closure plan (record { banks = banks; owed = [] }) (record { sound = settled.sound; missing = λ x m. absurd (settled.none x m); caused = λ x h. absurd (none_has x h) }) refl
