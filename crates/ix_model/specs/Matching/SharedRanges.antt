-- The ranges of a set, whether it has them alone or together with others.
use Rattle.std.specs.Prelude.{List}
use Rattle.std.specs.Arc.{arc_value}
use Rattle.ix_model.specs.declared.char_set.CharRange.{CharRange}
use Rattle.ix_model.specs.declared.char_set.Ranges.{Ranges}
use Rattle.ix_model.specs.declared.char_set.Ranges.TheVariants as held

abbrev pub ranges_of : Ranges → List CharRange
ranges_of (held.Own ranges) = ranges.items
ranges_of (held.Shared ranges) = (arc_value ranges).items
