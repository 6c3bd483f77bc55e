use Rattle.std.proofs.Common.{[]}
use Rattle.ix_examples.specs.SmallPlans.{nothing}
use Rattle.ix_settled_laws.proofs.Beginning.{none_claimed}
use Rattle.ix_settled_laws.proofs.laws.passes_begin_with_the_table.Goals as goal

pub returns-clause-not_known : goal.returns-clause-not_known
returns-clause-not_known c = none_claimed (nothing []) 64 0 0 0
