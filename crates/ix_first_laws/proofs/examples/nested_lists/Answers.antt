use Rattle.std.proofs.Common.{refl, [], ◌∷◌, None, arith}
use Rattle.ix_examples.specs.SmallRules.{helper, shown}
use Rattle.ix_first_laws.specs.SmallLists.{list_with}
use Rattle.ix_first_laws.proofs.NoNesting.{not_nested}
use Rattle.ix_first_laws.proofs.examples.nested_lists.Goals as goal

pub returns-clause-first_alternative : goal.returns-clause-first_alternative
returns-clause-first_alternative c = not_nested (list_with ((helper 1 ∷ []) ∷ (shown 0 ∷ []) ∷ [])) 1 0 0 1 None refl (λ e. cc e) (λ e. cc e) (λ h. omega (arith, h)) (λ h. omega (arith, h.2))

pub returns-clause-second_symbol : goal.returns-clause-second_symbol
returns-clause-second_symbol c = not_nested (list_with ((shown 0 ∷ []) ∷ (shown 0 ∷ helper 1 ∷ []) ∷ [])) 1 1 1 1 None refl (λ e. cc e) (λ e. cc e) (λ h. omega (arith, h)) (λ h. omega (arith, h.3))

pub returns-clause-third_alternative : goal.returns-clause-third_alternative
returns-clause-third_alternative c = λ h. omega (arith, h.two 1 refl)
