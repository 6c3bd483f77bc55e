-- What several banks have recorded, and how a step of one of them changes it.
use Rattle.std.proofs.Common.{◌≡◌, ℕ, ◌<◌, ◌≤◌, List, length, Contains, Some, slice_get, slice_set, sym, ap, ◌∙◌, subst, ◌⊎◌, inl, inr}
use Rattle.std.proofs.lemmas.Bool.{cases_eq}
use Rattle.std.proofs.lemmas.List.{length-set}
use Rattle.ix_model.specs.Expansion.Parts.{Parts}
use Rattle.ix_cluster.specs.declared.limits.TheConstants.{BANK_LIMIT}
use Rattle.ix_cluster.specs.declared.fact.Fact.{Fact}
use Rattle.ix_cluster.specs.ClosedFacts.{IsInClosed}
use Rattle.ix_cluster.specs.Homes.{home_of}
use Rattle.ix_cluster.specs.Seen.{Bank}
use Rattle.ix_cluster.specs.Sound.{IsSoundBank, AreSound}
use Rattle.ix_cluster.proofs.Members.{nth_has}
use Rattle.ix_closure.specs.Due.{IsRecorded}
use Rattle.ix_closure.proofs.Lists.ListMembers.{place_in, flat_has, flat_from}
use Rattle.ix_closure.proofs.Lists.ListUpdates.{set_other, set_from}
use Rattle.ix_cluster.proofs.Elements.{get-set_same}

-- a bank went from one log to another; the facts of which it is the home are Mine, and Before and After hold of what all
-- banks have recorded before and after
pub record Moves (Mine Before After : Fact → Type 0) (old new : List Fact) : Type 0 where
  pub grows : (f : Fact) → Before f → After f
  pub made : (f : Fact) → Contains new f → After f
  pub from : (f : Fact) → After f → Before f ⊎ Contains new f
  pub back : (f : Fact) → Contains old f → Before f
  pub here : (f : Fact) → Mine f → Before f → Contains old f

-- one of the banks has the fact
pub recorded_by : (banks : List Bank) (n : ℕ) (bank : Bank) (f : Fact) → slice_get banks n ≡ Some bank → Contains bank.log f → IsRecorded banks f
recorded_by banks n bank f e h = flat_has (λ (b : Bank). b.log) banks bank f (nth_has banks n bank e) h

-- and it is one with a number
pub recorded_in : (banks : List Bank) (f : Fact) → IsRecorded banks f → (n : ℕ) × (bank : Bank) × (slice_get banks n ≡ Some bank) × Contains bank.log f
recorded_in banks f h =
    let p = flat_from (λ (b : Bank). b.log) banks f h in
    let q = place_in banks p.0 p.1 in
    (q.0, p.0, q.1, p.2)

module _ (plan : Parts) (banks : List Bank) (sound : AreSound plan banks) where
  -- a recorded fact stands in the bank that is its home
  recorded_home : (f : Fact) → IsRecorded banks f → (bank : Bank) × (slice_get banks (home_of plan (length banks) f) ≡ Some bank) × Contains bank.log f
  recorded_home f h =
      let p = recorded_in banks f h in
      (p.1, ap (slice_get banks) ((sound.each p.0 p.1 p.2).at_home f p.3) ∙ p.2, p.3)

  pub recorded_here : (m : ℕ) (bank : Bank) → slice_get banks m ≡ Some bank → (f : Fact) → home_of plan (length banks) f ≡ m → IsRecorded banks f → Contains bank.log f
  recorded_here m bank there f home h =
      let p = recorded_home f h in
      let same : p.0 ≡ bank = cc (p.1, ap (slice_get banks) home, there) in
      subst (λ (b : Bank). Contains b.log f) same p.2

  -- and is in the closure
  pub recorded_closed : (f : Fact) → IsRecorded banks f → IsInClosed plan f
  recorded_closed f h = let p = recorded_in banks f h in (sound.each p.0 p.1 p.2).true_facts.closed f p.3

  module _ (m : ℕ) (bank new : Bank) (there : slice_get banks m ≡ Some bank) (sound_new : IsSoundBank plan (length banks) m new) (grown : (f : Fact) → Contains bank.log f → Contains new.log f) where
    -- the banks after one of them changed are sound
    pub set_sound : AreSound plan (slice_set banks m new)
    set_sound = record {
      some = subst (λ n. 0 < n) (sym (length-set banks m new)) sound.some;
      few = subst (λ n. n ≤ BANK_LIMIT) (sym (length-set banks m new)) sound.few;
      each = λ n b e. subst (λ count. IsSoundBank plan count n b) (sym (length-set banks m new)) (elim (set_from banks m n new b e) [
        | inl h ↦ subst (λ i. IsSoundBank plan (length banks) i b) (sym h.0) (subst (IsSoundBank plan (length banks) m) h.1 sound_new)
        | inr h ↦ sound.each n b h.1
      ]);
    }

    grows_at : (f : Fact) (n : ℕ) (b : Bank) → slice_get banks n ≡ Some b → Contains b.log f → IsRecorded (slice_set banks m new) f
    grows_at f n b e h = elim (cases_eq n m) [
      | inl w ↦
          let same : b ≡ bank = cc (e, ap (slice_get banks) w, there) in
          recorded_by (slice_set banks m new) m new f (get-set_same banks m bank new there) (grown f (subst (λ (c : Bank). Contains c.log f) same h))
      | inr w ↦ recorded_by (slice_set banks m new) n b f (set_other banks m n new b w e) h
    ]

    pub set_moves : Moves (λ f. home_of plan (length banks) f ≡ m) (IsRecorded banks) (IsRecorded (slice_set banks m new)) bank.log new.log
    set_moves = record {
      grows = λ f h. let p = recorded_in banks f h in grows_at f p.0 p.1 p.2 p.3;
      made = λ f h. recorded_by (slice_set banks m new) m new f (get-set_same banks m bank new there) h;
      from = λ f h. let p = recorded_in (slice_set banks m new) f h in elim (set_from banks m p.0 new p.1 p.2) [
        | inl w ↦ inr (subst (λ (b : Bank). Contains b.log f) (sym w.1) p.3)
        | inr w ↦ inl (recorded_by banks p.0 p.1 f w.1 p.3)
      ];
      back = λ f h. recorded_by banks m bank f there h;
      here = λ f mine h. recorded_here m bank there f mine h;
    }
