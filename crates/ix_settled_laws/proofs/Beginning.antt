-- The beginning is faithful.
use Rattle.std.proofs.Common.{◌≡◌, ℕ, zero, suc, ◌<◌, List, [], ◌∷◌, length, take, Contains, Some, slice_get, slice_index_or, refl, sym, ap, subst, inl, inr, arith}
use Rattle.std.proofs.lemmas.List.FromFn.{length-map-range_with_len}
use Rattle.ix_model.specs.Expansion.Parts.{Parts}
use Rattle.ix_cluster.specs.declared.fact.Fact.{Fact}
use Rattle.ix_cluster.specs.declared.fact.Fact.TheVariants as fact
use Rattle.ix_cluster.specs.Banks.{opening, opening_bank, facts_of}
use Rattle.ix_cluster.specs.ClosedFacts.{IsInClosed}
use Rattle.ix_cluster.specs.Seen.{Bank}
use Rattle.ix_cluster.specs.Sound.{AreSound}
use Rattle.ix_cluster.proofs.Members.{none_has, first_has, nth_has}
use Rattle.ix_closure.specs.declared.owed.Owed.{Owed}
use Rattle.ix_closure.specs.declared.owed.Owed.TheVariants.{Claim}
use Rattle.ix_closure.specs.Due.{IsDue, IsRecorded, IsMissing, claim, passed, inserted, waits, ends, meets}
use Rattle.ix_closure.specs.Follows.{fact_of, claim_for, claims_for}
use Rattle.ix_closure.proofs.Balancing.Opening.{no_claim, no_edge}
use Rattle.ix_closure.proofs.Balancing.RecordedFacts.{recorded_in, recorded_by, recorded_closed}
use Rattle.ix_closure.proofs.Closing.QuietClosure.{recorded_or_not}
use Rattle.ix_closure.proofs.Due.DescriptorSteps.{follows_due}
use Rattle.ix_closure.proofs.Lists.ListMembers.{filter_has, filter_from}
use Rattle.ix_rows.specs.Logs.{log_at}
use Rattle.ix_table.specs.Tables.{logs_of, lengths_of}
use Rattle.ix_settled_laws.specs.Brought.{IsBrought}
use Rattle.ix_settled_laws.specs.Covered.{Inside, Covered}
use Rattle.ix_settled_laws.specs.Faithful.{AtHome, IsFaithful}
use Rattle.ix_settled_laws.specs.Owing.{OwesClosed}
use Rattle.ix_settled_laws.specs.Workers.{IsKnown}
use Rattle.ix_settled_laws.proofs.Entries.{before_has}

-- what stands at a place is a bank's log
log_there : (banks : List Bank) (m : ℕ) (f : Fact) → Contains (log_at (logs_of banks) m) f → (bank : Bank) × (slice_get banks m ≡ Some bank) × (log_at (logs_of banks) m ≡ bank.log)
log_there [] m f h = absurd (none_has f h)
log_there (b ∷ banks) zero f h = (b, refl, refl)
log_there (b ∷ banks) (suc m) f h = log_there banks m f h

pub log_is : (banks : List Bank) (m : ℕ) (bank : Bank) → slice_get banks m ≡ Some bank → log_at (logs_of banks) m ≡ bank.log
log_is [] m bank e = absurd (cc)
log_is (b ∷ banks) zero bank e = let same : b ≡ bank = cc in ap (λ (x : Bank). x.log) same
log_is (b ∷ banks) (suc m) bank e = log_is banks m bank e

pub lengths_are : (banks : List Bank) (m : ℕ) → slice_index_or (lengths_of banks) m 0 ≡ length (log_at (logs_of banks) m)
lengths_are [] m = refl
lengths_are (b ∷ banks) zero = refl
lengths_are (b ∷ banks) (suc m) = lengths_are banks m

none_less : (m k : ℕ) → k < slice_index_or [] m 0 → ⊥
none_less m k h = omega (arith, h)

-- what entries bring is due
brought_due : (plan : Parts) (Holds : Fact → Type 0) (before : List Fact) (f : Fact) (x : Owed) → Holds f → ((g : Fact) → Contains before g → Holds g) → IsBrought plan before f x → IsDue plan Holds x
brought_due plan Holds before (fact.Called r k) x here others h = absurd h
brought_due plan Holds before (fact.Part sub) x here others h = absurd h
brought_due plan Holds before (fact.Desc s l p) x here others h = subst (IsDue plan Holds) (sym h) (claim s l p here)
brought_due plan Holds before (fact.Claim s l p) x here others h = follows_due plan Holds s l p (x ∷ []) x here h (first_has x [])
brought_due plan Holds before (fact.Edge r k s l) x here others (e, after, mark, c, next, is) = subst (IsDue plan Holds) (sym is) (meets r k s l e after mark here (others (fact.End r k e) c) next)
brought_due plan Holds before (fact.End r k e) x here others (s, l, after, mark, c, next, is) = subst (IsDue plan Holds) (sym is) (meets r k s l e after mark (others (fact.Edge r k s l) c) here next)

module _ (plan : Parts) (banks : List Bank) (sound : AreSound plan banks) where
  at_home : AtHome plan (length banks) (record { known = logs_of banks; own = [] })
  at_home m f h = let b = log_there banks m f h in (sound.each m b.0 b.1).at_home f (subst (λ (l : List Fact). Contains l f) b.2 h)

  recorded_at : (m : ℕ) (f : Fact) → Contains (log_at (logs_of banks) m) f → IsRecorded banks f
  recorded_at m f h = let b = log_there banks m f h in recorded_by banks m b.0 f b.1 (subst (λ (l : List Fact). Contains l f) b.2 h)

  known : (f : Fact) → IsRecorded banks f → IsKnown (record { known = logs_of banks; own = [] }) f
  known f h = let p = recorded_in banks f h in (p.0, subst (λ (l : List Fact). Contains l f) (sym (log_is banks p.0 p.1 p.2)) p.3)

  pub first_faithful : (owed : List Owed) → ((step : Owed) → IsMissing plan banks step → Contains owed step) → OwesClosed plan owed
      → IsFaithful plan (length banks) (record { begun = lengths_of banks; sight = record { known = logs_of banks; own = [] }; owed = owed })
  first_faithful owed missing closed = record { inside = inside; covered = covered; at_home = at_home; closed = closed }
    where
      inside : Inside (record { begun = lengths_of banks; sight = record { known = logs_of banks; own = [] }; owed = owed })
      inside m k (inl low) = subst (λ (n : ℕ). k < n) (lengths_are banks m) low
      inside m k (inr h) = absurd (none_has (m, k) h)

      covered : Covered plan (record { begun = lengths_of banks; sight = record { known = logs_of banks; own = [] }; owed = owed })
      covered m k f x a e brought =
          let log = log_at (logs_of banks) m in
          let due = brought_due plan (IsRecorded banks) (take k log) f x (recorded_at m f (nth_has log k f e)) (λ g h. recorded_at m g (before_has k log g h)) brought in
          elim (recorded_or_not banks (fact_of x)) [ inl h ↦ inr (known (fact_of x) h) | inr n ↦ inl (missing x (due, n)) ]

  pub other_faithful : IsFaithful plan (length banks) (record { begun = []; sight = record { known = logs_of banks; own = [] }; owed = [] })
  other_faithful = record {
    inside = λ m k a. elim a [ inl low ↦ absurd (none_less m k low) | inr h ↦ absurd (none_has (m, k) h) ];
    covered = λ m k f x a e brought. elim a [ inl low ↦ absurd (none_less m k low) | inr h ↦ absurd (none_has (m, k) h) ];
    at_home = at_home;
    closed = λ x h. absurd (none_has x h);
  }

-- ---- the opening

claim_by : (f : Fact) (x : Owed) → claim_for f ≡ Some x → (s : ℕ) × (l : ℕ) × (p : ℕ) × (f ≡ fact.Desc s l p) × (Claim s l p ≡ x)
claim_by (fact.Called r k) x e = absurd (cc)
claim_by (fact.Edge r k s l) x e = absurd (cc)
claim_by (fact.End r k e') x e = absurd (cc)
claim_by (fact.Part sub) x e = absurd (cc)
claim_by (fact.Claim s l p) x e = absurd (cc)
claim_by (fact.Desc s l p) x e = (s, l, p, refl, cc)

module _ (plan : Parts) (count : ℕ) where
  claimed : (s l p : ℕ) → IsRecorded (opening plan count) (fact.Claim s l p) → ⊥
  claimed s l p h = no_claim plan (record { banks = opening plan count; owed = [] }) count refl s l p h

  due_owed : (x : Owed) → IsDue plan (IsRecorded (opening plan count)) x → Contains (claims_for (facts_of (opening plan count))) x
  due_owed x (claim s l p h) = filter_has claim_for (facts_of (opening plan count)) (fact.Desc s l p) (Claim s l p) h refl
  due_owed x (passed s l p after e y h n t) = absurd (claimed s l p h)
  due_owed x (inserted s l p after n h next) = absurd (claimed s l p h)
  due_owed x (waits s l p after r mark h next) = absurd (claimed s l p h)
  due_owed x (ends s l p r h last) = absurd (claimed s l p h)
  due_owed x (meets r k s l e after mark edge end next) = absurd (no_edge plan (record { banks = opening plan count; owed = [] }) count refl r k s l edge)

  pub none_claimed : (s l p : ℕ) → IsKnown (record { known = logs_of (opening plan count); own = [] }) (fact.Claim s l p) → ⊥
  none_claimed s l p (m, h) =
      let b = log_there (opening plan count) m (fact.Claim s l p) h in
      claimed s l p (recorded_by (opening plan count) m b.0 (fact.Claim s l p) b.1 (subst (λ (z : List Fact). Contains z (fact.Claim s l p)) b.2 h))

  module _ (sound : AreSound plan (opening plan count)) where
    claims_closed : OwesClosed plan (claims_for (facts_of (opening plan count)))
    claims_closed x h =
        let p = filter_from claim_for (facts_of (opening plan count)) x h in
        let d = claim_by p.0 x p.2 in
        subst (λ (y : Owed). IsInClosed plan (fact_of y)) d.4 (recorded_closed plan (opening plan count) sound (fact.Desc d.0 d.1 d.2) (subst (IsRecorded (opening plan count)) d.3 p.1))

    pub opening_faithful : IsFaithful plan count (record { begun = lengths_of (opening plan count); sight = record { known = logs_of (opening plan count); own = [] }; owed = claims_for (facts_of (opening plan count)) })
    opening_faithful =
        subst (λ (n : ℕ). IsFaithful plan n (record { begun = lengths_of (opening plan count); sight = record { known = logs_of (opening plan count); own = [] }; owed = claims_for (facts_of (opening plan count)) })) (length-map-range_with_len (opening_bank plan count) 0 count)
        (first_faithful plan (opening plan count) sound (claims_for (facts_of (opening plan count))) (λ x m. due_owed x m.0) claims_closed)
