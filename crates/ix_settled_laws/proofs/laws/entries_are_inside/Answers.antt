use Rattle.std.proofs.Common.{[], inl, inr, lit<, arith}
use Rattle.ix_cluster.proofs.Members.{first_has}
use Rattle.ix_settled_laws.proofs.Small.{inside}
use Rattle.ix_settled_laws.proofs.laws.entries_are_inside.Goals as goal

pub returns-clause-inside : goal.returns-clause-inside
returns-clause-inside c = inside []

pub returns-clause-at_the_start : goal.returns-clause-at_the_start
returns-clause-at_the_start c = λ h. let low = h 0 3 (inl (lit< tt)) in absurd (omega (arith, low))

pub returns-clause-own : goal.returns-clause-own
returns-clause-own c = λ h. let low = h 0 3 (inr (first_has (0, 3) [])) in absurd (omega (arith, low))
