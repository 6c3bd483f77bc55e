use Rattle.std.proofs.Common.{refl, []}
use Rattle.ix_model.specs.Answers.Outcome.{conforms}
use Rattle.ix_cli.proofs.SmallReplies.{written_whole, not_shorter, not_nothing, written_front, not_another_front, no_output}
use Rattle.ix_cli.proofs.SmallChecks.{conforms_here}
use Rattle.ix_cli.proofs.laws.outputs_of_the_table.Goals as goal

pub returns-clause-answered : goal.returns-clause-answered
returns-clause-answered c = written_whole

pub returns-clause-not_shorter : goal.returns-clause-not_shorter
returns-clause-not_shorter c = not_shorter

pub returns-clause-not_refused : goal.returns-clause-not_refused
returns-clause-not_refused c = not_nothing

pub returns-clause-checked : goal.returns-clause-checked
returns-clause-checked c = (conforms, conforms_here [], refl, refl, λ n. refl)

pub returns-clause-front : goal.returns-clause-front
returns-clause-front c = written_front

pub returns-clause-not_front : goal.returns-clause-not_front
returns-clause-not_front c = not_another_front

pub returns-clause-no_output : goal.returns-clause-no_output
returns-clause-no_output c = no_output
