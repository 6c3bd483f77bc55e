use Rattle.std.proofs.Common.{rules, ap, subst}
use Rattle.ix_rows.specs.Beginnings.{Begins}
use Rattle.ix_rows.specs.Logs.{log_at}
use Rattle.ix_rows.proofs.Keeps.{merges, looks}
use Rattle.ix_rows.proofs.row.Row.join.Goals as goal

pub join_seat-requires : goal.join_seat-requires
join_seat-requires g c = (search rules, search rules, search rules, search rules, merges _ _ _ _ _ _ _ _ c.requires.1 c.requires.2.1 c.requires.3.1 c.requires.4.1)

pub load-requires : goal.load-requires
load-requires g c = (search rules, search rules, looks _ _ _ _ _ _ _ _)

pub returns-clause-known : goal.returns-clause-known
returns-clause-known g c = λ m. let both = c.load.ensures.2.1 m in let is = c.join_seat.ensures.2 in let now = log_at c.load.new.seat.me.0.known m in
    (subst (λ z. Begins now (log_at z m)) (ap (λ x. x.0.known) is) both.0, subst (λ z. Begins now (log_at z m)) (ap (λ x. x.0.came) is) both.1)
