use Rattle.std.proofs.Common.{refl, [], ◌∷◌, codes}
use mathlib.Core.Logic.{inl}
use Rattle.ix_model.specs.Answers.Outcome.{no_form}
use Rattle.ix_answer_laws.proofs.Commands.{no_words, unread}
use Rattle.ix_worked_examples.proofs.answers.words_refused.Goals as goal

pub returns-clause-none : goal.returns-clause-none
returns-clause-none c = λ map. (no_form, inl (no_words, refl), refl, refl, refl)

pub returns-clause-no_value : goal.returns-clause-no_value
returns-clause-no_value c = λ map. (no_form, inl (unread (codes "parse") (codes "g" ∷ codes "t" ∷ codes "--workers" ∷ []) refl, refl), refl, refl, refl)
