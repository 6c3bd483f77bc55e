use Rattle.ix_answer_laws.proofs.Commands.{command_or_none}
use Rattle.ix_answer_laws.proofs.laws.command_or_none.Goals as goal

pub returns : goal.returns
returns c = command_or_none
