use Rattle.std.proofs.Common.{rules}
use Rattle.ix_rows.proofs.Keeps.{forks}
use Rattle.ix_rows.proofs.row.Row.split.Goals as goal

pub split_seat-requires : goal.split_seat-requires
split_seat-requires g c = (search rules, search rules, forks _ _ _ _ _ _ c.requires.1 c.requires.2.1)
