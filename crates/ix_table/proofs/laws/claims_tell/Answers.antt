use Rattle.std.proofs.Common.{[], refl}
use Rattle.ix_cluster.specs.declared.fact.Fact.TheVariants.{Desc, Claim}
use Rattle.ix_cluster.proofs.Members.{Contains-has, has-Contains, first_has, none_has}
use Rattle.ix_table.specs.Examples.{first_log, claimed_log}
use Rattle.ix_table.proofs.SmallSteps.{claimed_desc}
use Rattle.ix_table.proofs.laws.claims_tell.Goals as goal

pub returns-clause-mine : goal.returns-clause-mine
returns-clause-mine c = (claimed_desc, (3, refl, first_has (0, 3) []))

pub returns-clause-taken : goal.returns-clause-taken
returns-clause-taken c = (claimed_desc, Contains-has claimed_log (Claim 2 0 0) refl, refl)

pub returns-clause-unknown : goal.returns-clause-unknown
returns-clause-unknown c = (λ h. let e = has-Contains first_log (Desc 3 0 1) h in absurd (cc e), λ h. let e = has-Contains first_log (Desc 3 0 1) h in absurd (cc e), refl)

pub returns-clause-not_own : goal.returns-clause-not_own
returns-clause-not_own c = λ t. none_has (0, t.1.0) t.1.2

pub returns-clause-not_known : goal.returns-clause-not_known
returns-clause-not_known c = λ t. let e = has-Contains first_log (Claim 2 0 0) t.1 in absurd (cc e)

pub returns-clause-an_entry_came : goal.returns-clause-an_entry_came
returns-clause-an_entry_came c = λ t. let e = t.2 in absurd (cc e)

pub returns-clause-known : goal.returns-clause-known
returns-clause-known c = λ t. t.0 (Contains-has first_log (Desc 2 0 0) refl)

pub returns-clause-was_known : goal.returns-clause-was_known
returns-clause-was_known c = λ t. t.1 (Contains-has first_log (Desc 2 0 0) refl)
