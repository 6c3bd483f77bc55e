-- What the rule of a row says, one law for each of its sentences. This project's own.
use Rattle.std.specs.Prelude.{◌≡◌, ◌≢◌, ◌↔◌, ◌⊎◌, ℕ, ◌<◌, ◌≤◌, List, map, length, Option, Some, slice_index}
use mathlib.Core.Option.{some}
use lib.ListN.{get_elem?}
use Rattle.atomic_table.specs.Table.{State}
use Rattle.ix_rows.specs.declared.view.View.{View}
use Rattle.ix_rows.specs.Beginnings.{Begins}
use Rattle.ix_rows.specs.Logs.{log_at}
use Rattle.ix_rows.specs.Numbers.{times}
use Rattle.ix_rows.specs.Orderly.{Orderly, AtHome}
use Rattle.ix_rows.specs.Totals.{total}
use Rattle.ix_rows.specs.Views.{IsLiveView}

-- exactly one of the views holds the place
abbrev pub HasOneHolder : {T E : Type 0} → List (View T E) → ℕ → Type 0
HasOneHolder {T} {E} views m = (j : ℕ) × (v : View T E) × (get_elem? views j ≡ some v) × (v.place ≡ Some m)
    × ((i : ℕ) (w : View T E) → get_elem? views i ≡ some w → w.place ≡ Some m → i ≡ j)

module _ {T X E : Type 0} (fact : T → ℕ → X → Type 0) (log : X → List E) where
  abbrev Rule : T → List (List E) → State (Option X) (View T E) → Type 0
  Rule = Orderly fact log

  -- a word is 0 exactly where one view holds its place
  abbrev pub TakenHaveHolders : Type 0
  TakenHaveHolders = (topic : T) (first : List (List E)) (s : State (Option X) (View T E)) → Rule topic first s → (m : ℕ) → m < length s.words → (slice_index s.words m ≡ 0) ↔ HasOneHolder s.views m

  -- the value of a free place is at home and meets the fact, and its log is the one given back last there
  abbrev pub FreeAreKept : Type 0
  FreeAreKept = (topic : T) (first : List (List E)) (s : State (Option X) (View T E)) (r : Rule topic first s) → (m : ℕ) → m < length s.words → slice_index s.words m ≢ 0 → AtHome fact log topic r.logs s.homes m

  -- every view but a spent one names the topic, and the lengths of the logs at the start
  abbrev pub LiveNameTopic : Type 0
  LiveNameTopic = (topic : T) (first : List (List E)) (s : State (Option X) (View T E)) → Rule topic first s → (j : ℕ) (v : View T E) → get_elem? s.views j ≡ some v → IsLiveView v → (v.topic ≡ Some topic) × (v.begun ≡ map length first)

  -- what a view knows of a log begins the one given back last; and where it holds the place, it took that one
  abbrev pub KnownBegin : Type 0
  KnownBegin = (topic : T) (first : List (List E)) (s : State (Option X) (View T E)) (r : Rule topic first s) → (j : ℕ) (v : View T E) → get_elem? s.views j ≡ some v → (m : ℕ) → Begins (r.logs m) (log_at v.known m) × (v.place ≡ Some m → v.took ≡ r.logs m)

  -- each entry that came since the start is one view's own, and once; no other number is any view's own
  abbrev pub OwnOnce : Type 0
  OwnOnce = (topic : T) (first : List (List E)) (s : State (Option X) (View T E)) (r : Rule topic first s) → (m k : ℕ) →
      (length (log_at first m) ≤ k → k < length (r.logs m) → total (λ v. times m k v.own) s.views ≡ 1)
      × ((k < length (log_at first m)) ⊎ (length (r.logs m) ≤ k) → total (λ v. times m k v.own) s.views ≡ 0)
