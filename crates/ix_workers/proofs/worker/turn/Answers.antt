use Rattle.std.proofs.Common.{◌++◌, List, Option, append-nil, ap, ◌∙◌, subst}
use Rattle.std.specs.Option.{option_to_list}
use Rattle.ix_closure.specs.declared.owed.Owed.{Owed}
use Rattle.ix_table.specs.Sights.{sight_of}
use Rattle.ix_settled_laws.specs.Done.{Works, begins}
use Rattle.ix_settled_laws.proofs.Steps.{done_closed, taken_last}
use Rattle.ix_workers.proofs.DoneSteps.{one_step}
use Rattle.ix_workers.proofs.worker.turn.Goals as goal

pub returns-in-Some-clause-works : goal.returns-in-Some-clause-works
returns-in-Some-clause-works g c =
    let w = c.args.worker.now in
    let step = c.in-Some.step in
    let rest = c.pop.new.self.items in
    let new = c.do_owed.new.worker in
    one_step c.args.plan.now (sight_of w.pass) w.owed.items step rest (sight_of new.pass) new.owed.items (taken_last w.owed.items step rest c.in-Some.ensures.items) c.in_ok-do_owed.ensures.done

pub returns-in-Some-clause-owed : goal.returns-in-Some-clause-owed
returns-in-Some-clause-owed g c =
    let w = c.args.worker.now in
    let step = c.in-Some.step in
    let rest = c.pop.new.self.items in
    let new = c.do_owed.new.worker in
    done_closed c.args.plan.now c.slot_count.ensures.planned (sight_of w.pass) w.owed.items step rest (sight_of new.pass) new.owed.items c.requires.owed (taken_last w.owed.items step rest c.in-Some.ensures.items) c.in_ok-do_owed.ensures.done

pub returns-in_default-next-clause-works : goal.returns-in_default-next-clause-works
returns-in_default-next-clause-works g c =
    let w = c.args.worker.now in
    subst (λ (l : List Owed). Works c.args.plan.now (sight_of w.pass) w.owed.items (sight_of w.pass) l) (◌∙◌ {A = List Owed} c.pop.ensures.items (◌∙◌ {A = List Owed} (ap (λ (o : Option Owed). c.pop.new.self.items ++ option_to_list o) c.in_default.is) (append-nil c.pop.new.self.items))) begins
