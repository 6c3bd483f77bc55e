-- Ranges of characters.
-- Source: this project's own.
use Rattle.regex_class.specs.Ranges.{Range}
use Rattle.ix_model.specs.declared.char_set.CharRange.{CharRange}

-- the range with these two ends
abbrev pub char_range : Range → CharRange
char_range r = record { low = r.0; high = r.1 }
