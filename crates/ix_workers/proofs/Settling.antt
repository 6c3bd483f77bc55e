-- No work is lost: what the parts of the whole work ensure leaves settled banks.
use Rattle.std.proofs.Common.{◌≡◌, ◌<◌, ◌≤◌, ℕ, zero, suc, Bool, true, false, ◌||◌, List, [], ◌∷◌, map, length, Some, slice_get, refl, sym, ap, ◌∙◌, subst, arith}
use Rattle.std.specs.List.{list_any}
use Rattle.std.proofs.lemmas.List.{length-map}
use Rattle.ix_model.specs.Expansion.Parts.{Parts}
use Rattle.ix_model.specs.Expansion.Planned.{IsPlanned}
use Rattle.ix_cluster.specs.declared.fact.Fact.{Fact}
use Rattle.ix_cluster.specs.Seen.{Bank}
use Rattle.ix_rows.specs.Passes.{Pass}
use Rattle.ix_table.specs.declared.table.Table.{Table}
use Rattle.ix_table.specs.Sights.{Sight, sight_of}
use Rattle.ix_table.specs.Tables.{IsBegun, IsClosed}
use Rattle.ix_settled_laws.specs.Done.{Works}
use Rattle.ix_settled_laws.specs.Joined.{Share, Joins, first_sight, IsWork}
use Rattle.ix_settled_laws.specs.Settled.{IsSettled}
use Rattle.ix_settled_laws.proofs.Whole.{work_settled}
use Rattle.ix_workers.specs.declared.worker.Finished.{Finished}
use Rattle.ix_workers.specs.declared.worker.Worker.{Worker}
use Rattle.ix_workers.specs.Team.{EachAt, IsNew, IsBack, back_share}

-- an element of a list that was made of another
made_of : {A B : Type 0} → (f : A → B) (xs : List A) (k : ℕ) (y : B) → slice_get (map f xs) k ≡ Some y → (x : A) × (slice_get xs k ≡ Some x) × (y ≡ f x)
made_of f [] k y at = absurd (cc)
made_of f (x ∷ xs) zero y at = (x, refl, (let is : f x ≡ y = cc in sym is))
made_of f (x ∷ xs) (suc k) y at = made_of f xs k y at

neither : (b c : Bool) → (b || c) ≡ false → (b ≡ false) × (c ≡ false)
neither false c e = (refl, e)
neither true c e = absurd (cc)

none_of : {A : Type 0} → (p : A → Bool) (xs : List A) (k : ℕ) (x : A) → list_any p xs ≡ false → slice_get xs k ≡ Some x → p x ≡ false
none_of p [] k x none at = absurd (cc)
none_of p (y ∷ ys) zero x none at = let is : y ≡ x = cc in subst (λ z. p z ≡ false) is (neither (p y) (list_any p ys) none).0
none_of p (y ∷ ys) (suc k) x none at = none_of p ys k x (neither (p y) (list_any p ys) none).1 at

-- what a worker begins with
abbrev share_of : Worker → Share
share_of worker = record { sight = sight_of worker.pass; owed = worker.owed.items }

module _ (plan : Parts) (planned : IsPlanned plan) (table : Table) (first : Pass Bank Parts Fact) (begun : IsBegun plan first)
    (team : List Worker) (some : 1 ≤ length team) (new : EachAt (IsNew plan table first.me.0.known) team) (done : List Finished) (as_many : length done ≡ length team)
    (backs : (k : ℕ) (w : Worker) (d : Finished) → slice_get team k ≡ Some w → slice_get done k ≡ Some d → IsBack plan table w d)
    (full : list_any (λ (d : Finished). d.short) done ≡ false) where
  -- each pass saw what the root of the new table saw
  saw : (k : ℕ) (w : Worker) → slice_get team k ≡ Some w → sight_of w.pass ≡ first_sight plan
  saw k w at = (new k w at).sight ∙ ap (λ known. record { known = known; own = [] }) (ap (λ (s : Sight). s.known) begun.sight)

  work_of : (root : Sight) (lengths : List ℕ) (banks : List Bank) → Joins (sight_of first) (map back_share done) root → lengths ≡ first.me.0.begun → IsClosed plan lengths root banks
      → IsWork plan (map share_of team) (map back_share done) root banks
  work_of root lengths banks joins same closed = record {
    some = subst (λ n. 0 < n) (sym (length-map team share_of)) (omega (arith, some));
    sights = λ k job at. let w = made_of share_of team k job at in ap (λ (s : Share). s.sight) w.2 ∙ saw k w.0 w.1;
    claims = λ job at. let w = made_of share_of team 0 job at in ap (λ (s : Share). s.owed) w.2 ∙ (new 0 w.0 w.1).list.first refl;
    nothing = λ k job at. let w = made_of share_of team (suc k) job at in ap (λ (s : Share). s.owed) w.2 ∙ (new (suc k) w.0 w.1).list.other (omega arith);
    as_many = length-map done back_share ∙ as_many ∙ sym (length-map team share_of);
    works = λ k job back at came.
        let w = made_of share_of team k job at in
        let d = made_of back_share done k back came in
        let did : Works plan (sight_of w.0.pass) w.0.owed.items (sight_of d.0.pass) [] = (backs k w.0 d.0 w.1 d.1).works (none_of (λ (x : Finished). x.short) done k d.0 full d.1) in
        subst (λ (j : Share). Works plan j.sight j.owed back.sight back.owed) (sym w.2) (subst (λ (b : Share). Works plan (share_of w.0).sight (share_of w.0).owed b.sight b.owed) (sym d.2) did);
    empty = λ k back came. let d = made_of back_share done k back came in ap (λ (s : Share). s.owed) d.2;
    joins = subst (λ (s : Sight). Joins s (map back_share done) root) begun.sight joins;
    closed = subst (λ (ns : List ℕ). IsClosed plan ns root banks) (same ∙ begun.begun) closed;
  }

  pub settled_by : (root : Sight) (lengths : List ℕ) (banks : List Bank) → Joins (sight_of first) (map back_share done) root → lengths ≡ first.me.0.begun → IsClosed plan lengths root banks → IsSettled plan banks
  settled_by root lengths banks joins same closed = work_settled plan planned (map share_of team) (map back_share done) root banks begun.sound (work_of root lengths banks joins same closed)
