use Rattle.std.proofs.Common.{rules, refl, arith}
use Rattle.ix_closure.specs.Due.{claim, ends}
use Rattle.ix_closure.proofs.Small.SmallSteps.{nothing_last}
use Rattle.ix_closure.proofs.laws.end_is_missing_until_it_is_recorded.Goals as goal

pub returns-clause-claim : goal.returns-clause-claim
returns-clause-claim c = (claim 0 0 0 (1, omega arith, refl), search rules)

pub returns-clause-follows : goal.returns-clause-follows
returns-clause-follows c = ends 0 0 0 0 (3, omega arith, refl) nothing_last

pub returns-clause-end : goal.returns-clause-end
returns-clause-end c = (ends 0 0 0 0 (3, omega arith, refl) nothing_last, search rules)

pub returns-clause-follows_still : goal.returns-clause-follows_still
returns-clause-follows_still c = ends 0 0 0 0 (3, omega arith, refl) nothing_last
