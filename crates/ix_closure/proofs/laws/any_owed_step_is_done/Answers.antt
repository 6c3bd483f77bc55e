use Rattle.ix_closure.proofs.Small.SmallEvents.{cycle_is_claimed, second_is_claimed}
use Rattle.ix_closure.proofs.laws.any_owed_step_is_done.Goals as goal

pub returns-clause-first : goal.returns-clause-first
returns-clause-first c = cycle_is_claimed

pub returns-clause-second : goal.returns-clause-second
returns-clause-second c = second_is_claimed
