use Rattle.ix_rows.specs.Passes.{HoldsNone}
use Rattle.ix_rows.specs.Places.{IsPassOf}
use Rattle.ix_rows.proofs.tests.add.Given as goal

abbrev pub invariant-loop : goal.invariant-loop
invariant-loop g l = IsPassOf l.row l.pass × HoldsNone l.pass
