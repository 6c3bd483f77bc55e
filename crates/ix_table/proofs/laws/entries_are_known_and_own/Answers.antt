use Rattle.std.proofs.Common.{[], refl}
use Rattle.ix_cluster.specs.declared.fact.Fact.TheVariants.{Desc, Claim}
use Rattle.ix_cluster.proofs.Members.{Contains-has, has-Contains, first_has, none_has}
use Rattle.ix_table.specs.Examples.{first_log}
use Rattle.ix_table.proofs.laws.entries_are_known_and_own.Goals as goal

pub returns-clause-known : goal.returns-clause-known
returns-clause-known c = Contains-has first_log (Desc 0 0 0) refl

pub returns-clause-not_known : goal.returns-clause-not_known
returns-clause-not_known c = λ h. let e = has-Contains first_log (Claim 2 0 0) h in absurd (cc e)

pub returns-clause-elsewhere : goal.returns-clause-elsewhere
returns-clause-elsewhere c = λ h. none_has (Desc 0 0 0) h

pub returns-clause-own : goal.returns-clause-own
returns-clause-own c = (1, refl, first_has (0, 1) [])

pub returns-clause-of_another : goal.returns-clause-of_another
returns-clause-of_another c = λ h. none_has (0, h.0) h.2
