use Rattle.ix_examples.specs.SmallPlans.{in_second}
use Rattle.ix_first_laws.proofs.HalfTrees.{first_second, no_root_before}
use Rattle.ix_first_laws.proofs.examples.first_of_two_halves.Goals as goal

pub returns-clause-second : goal.returns-clause-second
returns-clause-second c = first_second

pub returns-clause-first : goal.returns-clause-first
returns-clause-first c = λ h. no_root_before (h.1 in_second first_second.0 (λ e. cc e))
