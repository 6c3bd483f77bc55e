use Rattle.std.proofs.Common.{rules, ◌≡◌, false, List, map, ◌∙◌, sym, subst}
use Rattle.std.specs.List.{list_any}
use Rattle.ix_model.specs.Expansion.Parts.{Parts}
use Rattle.ix_table.specs.Sights.{Sight, sight_of}
use Rattle.ix_table.specs.Tables.{IsClosed}
use Rattle.ix_settled_laws.specs.Joined.{Joins}
use Rattle.ix_workers.specs.declared.worker.Finished.{Finished}
use Rattle.ix_workers.specs.Team.{back_share}
use Rattle.ix_workers.proofs.Listed.{at_same}
use Rattle.ix_workers.proofs.Settling.{settled_by}
use Rattle.ix_workers.proofs.working.work.Goals as goal

pub run_team-requires-clause-each : goal.run_team-requires-clause-each
run_team-requires-clause-each g c = λ κs bounds k w e. let new = c.in_ok-team.ensures.each k w e in (new.fits, new.closed)

pub join_all-requires-clause-done : goal.join_all-requires-clause-done
join_all-requires-clause-done g c = λ k d e.
    let team = c.in_ok-team.team.items in
    let done = c.in_ok-done.done.items in
    let there = at_same done team k d e (search rules) in
    (c.in_ok-done.ensures.each k there.0 d there.1 e).fits

pub returns-in-Ok-clause-settled : goal.returns-in-Ok-clause-settled
returns-in-Ok-clause-settled g c = λ full.
    let team = c.in_ok-team.team.items in
    let done = c.in_ok-done.done.items in
    let root = c.join_all.new.root in
    let none : list_any (λ (d : Finished). d.short) done ≡ false = subst (λ (l : List Finished). list_any (λ (d : Finished). d.short) l ≡ false) c.as_slice.ensures.value (sym c.is_short-short.ensures ∙ full) in
    let joins = subst (λ (s : Sight). Joins s (map back_share done) (sight_of root)) c.in_ok-team.ensures.sight c.join_all.ensures.joins in
    let closed = subst (λ (p : Parts). IsClosed p root.me.0.begun (sight_of root) c.in-Ok.banks.banks.items) c.in_ok-table.ensures.plan c.in-Ok.ensures.closed in
    settled_by c.args.plan.now c.slot_count.ensures.planned c.in_ok-table.table c.in_ok-table.root c.in_ok-table.ensures.root.1 team (search rules) c.in_ok-team.ensures.each done (search rules) c.in_ok-done.ensures.each none (sight_of root) root.me.0.begun
    c.in-Ok.banks.banks.items joins (c.join_all.ensures.begun ∙ c.in_ok-team.ensures.begun) closed
