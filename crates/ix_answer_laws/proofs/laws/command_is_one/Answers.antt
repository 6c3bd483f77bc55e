use Rattle.ix_answer_laws.proofs.Commands.{command_is_one}
use Rattle.ix_answer_laws.proofs.laws.command_is_one.Goals as goal

pub returns : goal.returns
returns c = command_is_one
