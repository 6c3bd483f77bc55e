use Rattle.std.proofs.Common.{arith}
use Rattle.ix_rows.proofs.Logs.{begins_length}
use Rattle.ix_table.specs.Examples.{first_log, claimed_log, first_bank}
use Rattle.ix_table.proofs.Changes.{own_once, beginning_closes}
use Rattle.ix_table.proofs.laws.closed_tables_have_all_banks.Goals as goal

pub returns-clause-begun : goal.returns-clause-begun
returns-clause-begun c = beginning_closes

pub returns-clause-own : goal.returns-clause-own
returns-clause-own c = own_once

pub returns-clause-no_banks : goal.returns-clause-no_banks
returns-clause-no_banks c = λ root h. let many = h.many in absurd (omega (arith, many))

pub returns-clause-not_own : goal.returns-clause-not_own
returns-clause-not_own c = λ banks there h. let once = h.counted 0 0 first_bank there in absurd (omega (arith, once))

pub returns-clause-not_there : goal.returns-clause-not_there
returns-clause-not_there c = λ banks there h. let many = begins_length first_log claimed_log (h.begin 0 first_bank there) in absurd (omega (arith, many))
