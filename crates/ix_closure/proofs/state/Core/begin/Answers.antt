use Rattle.std.proofs.Common.{rules}
use Rattle.ix_closure.proofs.Closing.EveryOrder.{every_order}
use Rattle.ix_closure.proofs.Tidying.FirstClaims.{opening_in_order}
use Rattle.ix_closure.proofs.Balancing.Opening.{opening_balanced}
use Rattle.ix_closure.proofs.state.Core.begin.Goals as goal

pub invariant_of-result : goal.invariant_of-result
invariant_of-result c =
    opening_balanced c.args.plan.now (record { banks = c.in_ok-banks.banks.banks.items; owed = c.push_claims.new.owed.items })
    c.in_ok-banks.ensures.opening (search rules) c.in_ok-banks.ensures.sound

pub returns-clause-orders : goal.returns-clause-orders
returns-clause-orders c =
    every_order c.args.plan.now c.slot_count.ensures.planned (record { banks = c.in_ok-banks.banks.banks.items; owed = c.push_claims.new.owed.items })
    c.in_ok-banks.ensures.opening (search rules) c.in_ok-banks.ensures.sound

pub returns-clause-in_order : goal.returns-clause-in_order
returns-clause-in_order c =
    opening_in_order c.args.plan.now c.slot_count.ensures.planned (record { banks = c.in_ok-banks.banks.banks.items; owed = c.push_claims.new.owed.items })
    c.in_ok-banks.ensures.opening (search rules)
