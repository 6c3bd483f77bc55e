use Rattle.ix_closure.proofs.Small.SmallEvents.{nothing_is_claimed, nothing_is_ended}
use Rattle.ix_closure.proofs.laws.step_is_done.Goals as goal

pub returns-clause-done : goal.returns-clause-done
returns-clause-done c = nothing_is_claimed

pub returns-clause-next : goal.returns-clause-next
returns-clause-next c = nothing_is_ended
