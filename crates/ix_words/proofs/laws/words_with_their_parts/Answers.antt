use Rattle.std.proofs.Common.{refl, [], ◌∷◌, codes}
use Rattle.ix_answer_laws.proofs.Commands.{of_read}
use Rattle.ix_words.proofs.laws.words_with_their_parts.Goals as goal

pub returns-clause-read : goal.returns-clause-read
returns-clause-read c = (codes "g" ∷ codes "--workers=8" ∷ codes "t" ∷ [], refl, of_read _ _ _ refl)
