use Rattle.ix_closure.proofs.Due.OneOutcome.{run_once}
use Rattle.ix_closure.proofs.laws.choices_lead_to_one_state.Goals as goal

pub returns : goal.returns
returns c = run_once
