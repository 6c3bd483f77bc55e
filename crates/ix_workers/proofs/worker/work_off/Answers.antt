use Rattle.std.proofs.Common.{List, subst, lit<, arith}
use Rattle.ix_closure.specs.declared.owed.Owed.{Owed}
use Rattle.ix_table.specs.Sights.{sight_of}
use Rattle.ix_settled_laws.specs.Done.{Works, begins}
use Rattle.ix_workers.proofs.DoneSteps.{works_on}
use Rattle.ix_workers.proofs.worker.work_off.Goals as goal

pub loop-init : goal.loop-init
loop-init g c = record { fits = c.requires.pass; works = begins; closed = c.requires.owed; few = lit< tt }

pub loop-preserved-in-Ok-true : goal.loop-preserved-in-Ok-true
loop-preserved-in-Ok-true g c =
    let first = c.args.worker in
    let old = c.loop.worker in
    let new = c.turn.new.worker in
    record {
      fits = c.turn.ensures.pass;
      works = works_on c.args.plan.now (sight_of first.pass) (sight_of old.pass) first.owed.items old.owed.items c.loop.invariant.works (sight_of new.pass) new.owed.items c.in-Ok-true.ensures.works;
      closed = c.in-Ok-true.ensures.owed;
      few = lit< tt;
    }

pub returns-then-misses-eq-PATIENCE-clause-works : goal.returns-then-misses-eq-PATIENCE-clause-works
returns-then-misses-eq-PATIENCE-clause-works g c = λ e.
    let first = c.args.worker in
    let old = c.loop.worker in
    let new = c.turn.new.worker in
    subst (λ (l : List Owed). Works c.args.plan.now (sight_of first.pass) first.owed.items (sight_of new.pass) l) (c.in-Ok-false.ensures.nothing c.in-Ok-false.field-0-test)
    (works_on c.args.plan.now (sight_of first.pass) (sight_of old.pass) first.owed.items old.owed.items c.loop.invariant.works (sight_of new.pass) new.owed.items c.in-Ok-false.ensures.works)

pub loop-preserved : goal.loop-preserved
loop-preserved g c =
    let first = c.args.worker in
    let old = c.loop.worker in
    let new = c.turn.new.worker in
    let was = c.loop.invariant.few in
    let other = c.if-misses-eq-PATIENCE.false in
    record {
      fits = c.turn.ensures.pass;
      works = works_on c.args.plan.now (sight_of first.pass) (sight_of old.pass) first.owed.items old.owed.items c.loop.invariant.works (sight_of new.pass) new.owed.items c.in-Ok-false.ensures.works;
      closed = c.in-Ok-false.ensures.owed;
      few = omega (arith, was, other);
    }
