-- What a held value ends as, where a `&mut` to it is lent. This project's own.
use Rattle.std.specs.Borrow.{Lends, Fml, RattleType, MutBor}
use Rattle.ix_rows.specs.declared.held.Held.{Held}
use Rattle.ix_rows.specs.contracts.held.Held.{the_row}

-- the held value, with another value at the same place
abbrev pub with_value : {K T X E : Type 0} → Held K T X E → X → Held K T X E
with_value held value = record held { value = value }

module _ (K T X E : RattleType) where
  -- once the borrow ends, the value is what was written through it
  abbrev pub LendsValue : MutBor (Held K.Denot T.Denot X.Denot E.Denot) → MutBor X.Denot → Fml
  LendsValue held result = Lends (the_row K T X E) X held result (with_value held.now)
