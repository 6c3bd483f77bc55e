-- What a clause says of a pass. This project's own.
use Rattle.std.specs.Prelude.{◌≡◌, ℕ, true, [], ◌∷◌, Option, Some, None}
use Rattle.atomic_table.specs.declared.shared.Seat.{Seat}
use Rattle.ix_rows.specs.declared.view.View.{View}
use Rattle.ix_rows.specs.Views.{IsLiveView}

abbrev pub Pass : Type 0 → Type 0 → Type 0 → Type 0
Pass X T E = Seat (Option X) (View T E)

module _ {X T E : Type 0} where
  -- it holds no place
  abbrev pub HoldsNone : Pass X T E → Type 0
  HoldsNone pass = (pass.me.1 ≡ []) × (pass.me.0.place ≡ None)

  -- it holds this place, and has taken out its value
  abbrev pub HoldsPlace : Pass X T E → ℕ → Type 0
  HoldsPlace pass place = (pass.me.1 ≡ (place, None) ∷ []) × (pass.me.0.place ≡ Some place)

  -- it is the pass that was made with the row
  abbrev pub IsRoot : Pass X T E → Type 0
  IsRoot pass = pass.me.0.root ≡ true

  -- every pass that was split off was joined
  abbrev pub IsWhole : Pass X T E → Type 0
  IsWhole pass = pass.me.0.out ≡ 0

  -- it names this topic
  abbrev pub Names : Pass X T E → T → Type 0
  Names pass topic = pass.me.0.topic ≡ Some topic

  -- it was not joined
  abbrev pub IsLive : Pass X T E → Type 0
  IsLive pass = IsLiveView pass.me.0
