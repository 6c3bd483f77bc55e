use Rattle.std.proofs.Common.{rules, arith}
use Rattle.ix_workers.proofs.Starting.{first_claims, first_closed}
use Rattle.ix_workers.proofs.team.first_list.Goals as goal

pub returns-clause-list : goal.returns-clause-list
returns-clause-list c = record {
  first = λ e. first_claims c.args.plan.now c.slot_count.ensures.planned c.push_claims.new.owed.items (search rules);
  other = λ h. absurd (omega (arith, h, c.if-number-gt0.false));
}

pub returns-clause-closed : goal.returns-clause-closed
returns-clause-closed c = first_closed c.args.plan.now c.slot_count.ensures.planned c.push_claims.new.owed.items (search rules)
