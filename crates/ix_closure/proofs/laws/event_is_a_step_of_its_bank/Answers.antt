use Rattle.std.proofs.Common.{refl}
use Rattle.ix_cluster.specs.StepAnswers.{answer_to}
use Rattle.ix_cluster.proofs.StepCases.{step_from}
use Rattle.ix_closure.specs.Events.{call_of, log_after}
use Rattle.ix_closure.proofs.laws.event_is_a_step_of_its_bank.Goals as goal

pub returns : goal.returns
returns c = λ plan old n new event. step_from plan event.bank.log (call_of event.step) (answer_to event.bank.log (call_of event.step)) (log_after plan event.bank.log event.step) refl refl
