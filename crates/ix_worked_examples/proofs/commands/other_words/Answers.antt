use Rattle.std.proofs.Common.{refl, [], ◌∷◌, codes}
use Rattle.ix_answer_laws.proofs.Commands.{three_operands}
use Rattle.ix_worked_examples.proofs.commands.other_words.Goals as goal

pub returns-clause-three_operands : goal.returns-clause-three_operands
returns-clause-three_operands c = three_operands (codes "g" ∷ codes "t" ∷ codes "u" ∷ []) (codes "g") (codes "t") (codes "u") refl
