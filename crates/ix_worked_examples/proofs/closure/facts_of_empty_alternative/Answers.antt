use Rattle.std.proofs.Common.{refl, codes, arith}
use Rattle.ix_model.specs.Closure.Closed.{start, begun, ended, empty}
use Rattle.ix_examples.proofs.SmallClosures.{end_none}
use Rattle.ix_worked_examples.proofs.closure.facts_of_empty_alternative.Goals as goal

pub returns-clause-desc : goal.returns-clause-desc
returns-clause-desc c = begun 0 0 0 start (0, _, refl, (_, _, refl, refl, refl))

pub returns-clause-part : goal.returns-clause-part
returns-clause-part c = empty 0 0 0 start (0, _, refl, (_, _, refl, refl, refl)) (0, _, refl, (_, _, refl, refl, refl))

pub returns-clause-end : goal.returns-clause-end
returns-clause-end c = ended 0 0 0 0 (begun 0 0 0 start (0, _, refl, (_, _, refl, refl, refl))) (0, _, refl, (_, _, refl, refl, refl))

pub returns-clause-no_character : goal.returns-clause-no_character
returns-clause-no_character c = λ h. omega (arith, end_none (codes "a") 0 0 1 h)
