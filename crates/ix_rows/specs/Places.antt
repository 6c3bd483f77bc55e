-- What a clause says of a row, and of the passes that belong to it. This project's own.
use Rattle.std.specs.Prelude.{◌≡◌, ℕ}
use Rattle.ix_rows.specs.declared.row.Row.{Row}
use Rattle.ix_rows.specs.Passes.{Pass, IsLive}

module _ {K T X E : Type 0} where
  -- it came from this row, and was not joined
  abbrev pub IsPassOf : Row K T X E → Pass X T E → Type 0
  IsPassOf row pass = (pass.table_id ≡ row.table.shared.table_id) × IsLive pass

  -- the number of places
  abbrev pub row_places : Row K T X E → ℕ
  row_places row = row.table.shared.table_id.slots
