-- The rule of a row: which view holds which place, what a value at home meets, and what each view knows of the logs.
-- This project's own.
use Rattle.std.specs.Prelude.{◌≡◌, ◌≢◌, ℕ, ◌-◌, ◌<◌, ◌≤◌, List, [], map, length, true, false, Option, Some, slice_index}
use mathlib.Core.Option.{some}
use mathlib.Core.Option as maybe
use lib.ListN.{get_elem?}
use Rattle.atomic_table.specs.Table.{State}
use Rattle.ix_rows.specs.declared.view.View.{View}
use Rattle.ix_rows.specs.Beginnings.{Begins}
use Rattle.ix_rows.specs.Logs.{log_at}
use Rattle.ix_rows.specs.Numbers.{times, run}
use Rattle.ix_rows.specs.Totals.{total}
use Rattle.ix_rows.specs.Views.{CanHold, lent}

module _ {T X E : Type 0} (fact : T → ℕ → X → Type 0) (log : X → List E) where
  -- a value is at home at the place; it meets the fact, and its log is the one that is told of the place
  abbrev pub AtHome : T → (ℕ → List E) → List (maybe.Option (Option X)) → ℕ → Type 0
  AtHome topic logs homes m = (x : X) × (get_elem? homes m ≡ some (some (Some x))) × fact topic m x × (log x ≡ logs m)

  -- what the rule says of the view of the seat j: the word of the place that it holds is 0, and it took the log last given
  -- back there; where it names a topic, it is the one, with the lengths at the start; the root is the first seat, and
  -- counts the passes that are out; what it knows are beginnings; and a spent view has no entry of its own
  abbrev pub Fits : T → List ℕ → (ℕ → List E) → List ℕ → ℕ → ℕ → View T E → Type 0
  Fits topic begun logs words lent_out j v =
      ((m : ℕ) → v.place ≡ Some m → (m < length words) × (slice_index words m ≡ 0) × CanHold v × (v.took ≡ logs m))
      × ((t : T) → v.topic ≡ Some t → (t ≡ topic) × (v.begun ≡ begun))
      × (v.root ≡ true → (j ≡ 0) × (v.lent ≡ 0) × (v.out ≡ lent_out))
      × ((m : ℕ) → Begins (logs m) (log_at v.known m) × Begins (logs m) (log_at v.came m))
      × (v.root ≡ false → v.lent ≡ 0 → v.own ≡ [])

  pub record Orderly (topic : T) (first : List (List E)) (s : State (Option X) (View T E)) : Type 0 where
    -- the log that was given back last at each place
    pub logs : ℕ → List E
    -- a word for each slot
    pub as_many : length s.words ≡ length s.homes
    -- where a place is free, its value is at home
    pub free : (m : ℕ) → m < length s.words → slice_index s.words m ≢ 0 → AtHome topic logs s.homes m
    -- where a place is taken, a view holds it
    pub taken : (m : ℕ) → m < length s.words → slice_index s.words m ≡ 0 → (j : ℕ) × (v : View T E) × (get_elem? s.views j ≡ some v) × (v.place ≡ Some m)
    pub fits : (j : ℕ) (v : View T E) → get_elem? s.views j ≡ some v → Fits topic (map length first) logs s.words (total lent s.views) j v
    -- no two views hold one place
    pub one : (i j : ℕ) (v w : View T E) (m : ℕ) → get_elem? s.views i ≡ some v → get_elem? s.views j ≡ some w → v.place ≡ Some m → w.place ≡ Some m → i ≡ j
    -- no log is shorter than at the start
    pub grown : (m : ℕ) → length (log_at first m) ≤ length (logs m)
    -- the views' own numbers are together those of the entries that came since the start, each once
    pub owned : (m k : ℕ) → total (λ v. times m k v.own) s.views ≡ times m k (run m (length (log_at first m)) (length (logs m) - length (log_at first m)))
