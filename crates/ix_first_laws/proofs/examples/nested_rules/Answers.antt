use Rattle.std.proofs.Common.{refl, None, arith}
use Rattle.ix_examples.specs.SmallRules.{helper}
use Rattle.ix_first_laws.specs.SmallLists.{backward, group_with}
use Rattle.ix_first_laws.proofs.NoNesting.{not_nested}
use Rattle.ix_first_laws.proofs.examples.nested_rules.Goals as goal

pub returns-clause-earlier : goal.returns-clause-earlier
returns-clause-earlier c = not_nested backward 2 1 0 1 None refl (λ e. cc e) (λ e. cc e) (λ h. omega (arith, h)) (λ h. omega (arith, h.0))

pub returns-clause-itself : goal.returns-clause-itself
returns-clause-itself c = not_nested (group_with (helper 1)) 1 1 0 1 None refl (λ e. cc e) (λ e. cc e) (λ h. omega (arith, h)) (λ h. absurd (cc h.1))
