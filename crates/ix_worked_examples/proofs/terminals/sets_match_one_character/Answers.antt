use Rattle.std.proofs.Common.{refl, arith, [], ◌∷◌}
use mathlib.Core.Logic.{inl, inr}
use Rattle.ix_model.specs.Matching.Sets.{IsOfSome}
use Rattle.ix_examples.specs.SmallGrammars.{digits}
use Rattle.ix_worked_examples.proofs.terminals.sets_match_one_character.Goals as goal

no_digit : ¬ (IsOfSome 97 (digits ∷ []))
no_digit (inl h) = omega (arith, h.1)
no_digit (inr h) = h

pub returns-clause-exclusion : goal.returns-clause-exclusion
returns-clause-exclusion c = inr (_, _, _, 97, refl, no_digit, (refl, omega arith, refl))

pub returns-clause-marked_exclusion : goal.returns-clause-marked_exclusion
returns-clause-marked_exclusion c = inr (_, _, _, 97, refl, no_digit, (refl, omega arith, refl))
