use Rattle.ix_rows.proofs.Logs.{times_in, times_out, times_elsewhere, put_here, put_else, longest_begins}
use Rattle.ix_rows.proofs.laws.logs_grow_at_one_place.Goals as goal

pub returns-clause-run : goal.returns-clause-run
returns-clause-run c = λ place number first count. (
  (λ low high. times_in place number first count low high),
  times_out place number first count,
  λ other apart. times_elsewhere place other number first count apart,
)

pub returns-clause-put : goal.returns-clause-put
returns-clause-put c = λ logs place log. (put_here logs place log, λ other apart. put_else logs place other log apart)

pub returns-clause-longest : goal.returns-clause-longest
returns-clause-longest c = λ all a b both. longest_begins all a b both
