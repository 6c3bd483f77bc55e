use Rattle.ix_workers.proofs.Listed.{read_at}
use Rattle.ix_workers.proofs.team.run_team.Goals as goal

pub map_vec-requires-after_bounds : goal.map_vec-requires-after_bounds
map_vec-requires-after_bounds g c = λ κs bounds i x near is. let fits = c.requires.each i x (read_at c.args.team.items i x near is) in (c.requires.plan, fits.0, fits.1)
