-- What a pass knows, and what becomes of it. This project's own.
use Rattle.std.specs.Prelude.{◌≡◌, ◌⊎◌, ℕ, ◌+◌, ◌-◌, List, [], ◌++◌, map, length, true, false, Some, None}
use Rattle.ix_rows.specs.declared.view.View.{View}
use Rattle.ix_rows.specs.Logs.{put_at, longest}
use Rattle.ix_rows.specs.Numbers.{run}

module _ {T E : Type 0} where
  -- the root of a new row: it knows the logs, and no entry is its own
  abbrev pub root_view : T → List (List E) → View T E
  root_view topic logs = record { root = true; lent = 0; out = 0; place = None; topic = Some topic; begun = map length logs; known = logs; came = []; own = []; took = [] }

  -- a pass that was joined
  abbrev pub spent : View T E
  spent = record { root = false; lent = 0; out = 0; place = None; topic = None; begun = []; known = []; came = []; own = []; took = [] }

  -- the root after a split: one more pass is out
  abbrev pub left_of : View T E → View T E
  left_of v = record v { out = v.out + 1 }

  -- the pass that is split off: it knows what the root knows, and no entry is its own
  abbrev pub right_of : View T E → View T E
  right_of v = record { root = false; lent = 1; out = 0; place = None; topic = v.topic; begun = v.begun; known = v.known; came = []; own = []; took = [] }

  -- the root as a pass comes back: one pass fewer is out, the entries of both are its own, and what the other knew is there
  abbrev pub both_of : View T E → View T E → View T E
  both_of v w = record v { out = v.out - 1; came = w.known; own = v.own ++ w.own }

  -- the root with what came: at each place it knows the longer of the two
  abbrev pub merged : View T E → View T E
  merged v = record v { known = longest v.known v.came; came = [] }

  -- it holds a place, and has taken a value with this log there
  abbrev pub holding : View T E → ℕ → List E → View T E
  holding v place log = record v { place = Some place; took = log }

  -- it has given back a value with this log at the place: it knows the log, and the entries that came since the take are its own
  abbrev pub giving : View T E → ℕ → List E → View T E
  giving v place log = record v { place = None; known = put_at v.known place log; own = v.own ++ run place (length v.took) (length log - length v.took); took = [] }

  -- how much the view adds to the passes that are out
  abbrev pub lent : View T E → ℕ
  lent v = v.lent

  -- it can hold a place: it is that of the root, or of a pass that was split off and is not joined
  abbrev pub CanHold : View T E → Type 0
  CanHold v = (v.root ≡ true) ⊎ (v.lent ≡ 1)

  -- a view that is not spent: it can hold a place, and names a topic
  abbrev pub IsLiveView : View T E → Type 0
  IsLiveView v = CanHold v × ((topic : T) × (v.topic ≡ Some topic))
