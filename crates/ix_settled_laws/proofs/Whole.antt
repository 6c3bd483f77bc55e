-- No work is lost.
use Rattle.std.proofs.Common.{◌≡◌, ◌<◌, ◌≤◌, ℕ, suc, List, [], ◌∷◌, map, length, get_or, Contains, Some, slice_get, slice_index_or, refl, sym, ap, ◌∙◌, subst, inl, inr, arith, lt_of_not-le}
use native.Mathlib.Decide.{dec_le}
use Rattle.std.proofs.lemmas.List.FromFn.{length-map-range_with_len}
use Rattle.std.proofs.lemmas.Option.{slice_get-get_or, slice_get_within}
use Rattle.ix_model.specs.Expansion.Parts.{Parts}
use Rattle.ix_model.specs.Expansion.Planned.{IsPlanned}
use Rattle.ix_cluster.specs.declared.fact.Fact.{Fact}
use Rattle.ix_cluster.specs.Banks.{opening, opening_bank}
use Rattle.ix_cluster.specs.Seen.{Bank}
use Rattle.ix_cluster.specs.Sound.{AreSound}
use Rattle.ix_cluster.proofs.Members.{first_has, rest_has, either_has, none_has, nth_has}
use Rattle.ix_closure.specs.declared.owed.Owed.{Owed}
use Rattle.ix_closure.proofs.Lists.ListMembers.{map_has, map_from, place_in}
use Rattle.ix_rows.specs.Beginnings.{Begins}
use Rattle.ix_rows.specs.Logs.{log_at}
use Rattle.ix_rows.proofs.Logs.{begins_further}
use Rattle.ix_table.specs.Sights.{Sight}
use Rattle.ix_table.specs.Tables.{lengths_of}
use Rattle.ix_table.proofs.Changes.{own_once}
use Rattle.ix_settled_laws.specs.Faithful.{IsFaithful}
use Rattle.ix_settled_laws.specs.Joined.{Share, first_sight, IsWork}
use Rattle.ix_settled_laws.specs.Laws.{AreDone}
use Rattle.ix_settled_laws.specs.Settled.{IsSettled}
use Rattle.ix_settled_laws.specs.Workers.{Worker, Answers}
use Rattle.ix_settled_laws.proofs.Beginning.{opening_faithful, other_faithful}
use Rattle.ix_settled_laws.proofs.Entries.{times_has}
use Rattle.ix_settled_laws.proofs.Joining.{joins_know, joins_from}
use Rattle.ix_settled_laws.proofs.Settling.{settles}
use Rattle.ix_settled_laws.proofs.Steps.{work_keeps}

-- the worker of a share, where it answers for none of the entries at the start
abbrev other : Share → Worker
other back = record { begun = []; sight = back.sight; owed = back.owed }

module _ (plan : Parts) (planned : IsPlanned plan) (jobs : List Share) (back : Share) (backs : List Share) (root : Sight) (banks : List Bank) (sound : AreSound plan (opening plan 64)) (work : IsWork plan jobs (back ∷ backs) root banks) where
  abbrev leader : Worker
  leader = record { begun = lengths_of (opening plan 64); sight = back.sight; owed = back.owed }

  abbrev workers : List Worker
  workers = leader ∷ map other backs

  -- a share that came back was handed out
  job_there : (k : ℕ) (b : Share) → slice_get (back ∷ backs) k ≡ Some b → (job : Share) × (slice_get jobs k ≡ Some job)
  job_there k b e =
      let low : k < length jobs = (let w = slice_get_within (back ∷ backs) k b e in let n = work.as_many in omega (arith, w, n)) in
      (get_or jobs k back, slice_get-get_or jobs k back low)

  leader_faithful : IsFaithful plan 64 leader
  leader_faithful =
      let j = job_there 0 back refl in
      work_keeps plan planned j.0.sight j.0.owed back.sight back.owed (work.works 0 j.0 back j.1 refl) (lengths_of (opening plan 64))
      (subst (λ (z : Sight × List Owed). IsFaithful plan 64 (record { begun = lengths_of (opening plan 64); sight = z.0; owed = z.1 })) (λ i. (sym (work.sights 0 j.0 j.1) i, sym (work.claims j.0 j.1) i)) (opening_faithful plan 64 sound))

  other_faith : (k : ℕ) (b : Share) → slice_get (back ∷ backs) (suc k) ≡ Some b → IsFaithful plan 64 (record { begun = []; sight = b.sight; owed = b.owed })
  other_faith k b e =
      let j = job_there (suc k) b e in
      let start : IsFaithful plan 64 (record { begun = []; sight = first_sight plan; owed = [] }) = subst (λ (n : ℕ). IsFaithful plan n (record { begun = []; sight = first_sight plan; owed = [] })) (length-map-range_with_len (opening_bank plan 64) 0 64) (other_faithful plan (opening plan 64) sound) in
      work_keeps plan planned j.0.sight j.0.owed b.sight b.owed (work.works (suc k) j.0 b j.1 e) []
      (subst (λ (z : Sight × List Owed). IsFaithful plan 64 (record { begun = []; sight = z.0; owed = z.1 })) (λ i. (sym (work.sights (suc k) j.0 j.1) i, sym (work.nothing k j.0 j.1) i)) start)

  -- each worker is of a share
  of_share : (w : Worker) → Contains workers w → (k : ℕ) × (b : Share) × (slice_get (back ∷ backs) k ≡ Some b) × (w.sight ≡ b.sight) × (w.owed ≡ b.owed) × IsFaithful plan 64 w
  of_share w h = elim (either_has leader (map other backs) w h) [
    | inl e ↦ (0, back, refl, ap (λ (x : Worker). x.sight) (sym e), ap (λ (x : Worker). x.owed) (sym e), subst (IsFaithful plan 64) e leader_faithful)
    | inr r ↦
        let p = map_from other backs w r in
        let q = place_in backs p.0 p.1 in
        (suc q.0, p.0, q.1, ap (λ (x : Worker). x.sight) (sym p.2), ap (λ (x : Worker). x.owed) (sym p.2), subst (IsFaithful plan 64) p.2 (other_faith q.0 p.0 q.1))
  ]

  -- each share has a worker that answers for its own entries
  of_worker : (share : Share) → Contains (back ∷ backs) share → (m k : ℕ) → Contains share.sight.own (m, k) → (w : Worker) × Contains workers w × Answers w m k
  of_worker share h m k own = elim (either_has back backs share h) [
    | inl e ↦ (leader, first_has leader (map other backs), inr (subst (λ (x : Share). Contains x.sight.own (m, k)) (sym e) own))
    | inr r ↦ (other share, rest_has leader (map other backs) (other share) (map_has other backs share r), inr own)
  ]

  answered : (m k : ℕ) (bank : Bank) (f : Fact) → slice_get banks m ≡ Some bank → slice_get bank.log k ≡ Some f → (w : Worker) × Contains workers w × Answers w m k
  answered m k bank f there e = by (dec_le (slice_index_or (lengths_of (opening plan 64)) m 0) k)
    where
      by : Dec (slice_index_or (lengths_of (opening plan 64)) m 0 ≤ k) → (w : Worker) × Contains workers w × Answers w m k
      by (no d) = (leader, first_has leader (map other backs), inl (lt_of_not-le d))
      by (yes d) =
          let once = own_once plan (lengths_of (opening plan 64)) root banks m k bank work.closed there d (slice_get_within bank.log k f e) in
          elim (joins_from (first_sight plan) (back ∷ backs) root work.joins m k (times_has m k root.own (omega (arith, once)))) [
            | inl none ↦ absurd (none_has (m, k) none)
            | inr s ↦ of_worker s.0 s.1 m k s.2
          ]

  done : AreDone plan banks workers
  done = record {
    faithful = λ w h. subst (λ (n : ℕ). IsFaithful plan n w) (sym work.closed.many) (of_share w h).5;
    nothing = λ w h. let s = of_share w h in s.4 ∙ work.empty s.0 s.1 s.2;
    begin = λ w h m bank there. let s = of_share w h in
        begins_further bank.log (log_at root.known m) (log_at w.sight.known m) (work.closed.begin m bank there)
        (subst (λ (x : Sight). Begins (log_at root.known m) (log_at x.known m)) (sym s.3) (joins_know (first_sight plan) (back ∷ backs) root work.joins s.1 (nth_has (back ∷ backs) s.0 s.1 s.2) m));
    answered = answered;
  }

  whole : IsSettled plan banks
  whole = settles plan banks work.closed.sound workers done

pub work_settled : (plan : Parts) → IsPlanned plan → (jobs done : List Share) (root : Sight) (banks : List Bank) → AreSound plan (opening plan 64) → IsWork plan jobs done root banks → IsSettled plan banks
work_settled plan planned jobs [] root banks sound work = absurd (let n = work.as_many in let s = work.some in omega (arith, n, s))
work_settled plan planned jobs (back ∷ backs) root banks sound work = whole plan planned jobs back backs root banks sound work
