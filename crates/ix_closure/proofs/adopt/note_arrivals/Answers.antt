use Rattle.std.proofs.Common.{◌≡◌, ◌<◌, ◌∙◌, ℕ, length, ap, subst, arith, slice_index_or}
use Rattle.std.proofs.lemmas.Option.{slice_get-get_or}
use Rattle.ix_model.specs.Closure.Useful.{sub_at}
use Rattle.ix_cluster.specs.Homes.{home}
use Rattle.ix_closure.specs.declared.owed.Owed.TheVariants.{Arrive}
use Rattle.ix_closure.specs.Additions.{Adds}
use Rattle.ix_closure.specs.Brought.{Lacks}
use Rattle.ix_closure.specs.Follows.{arrival}
use Rattle.ix_closure.specs.Quantity.{same_step}
use Rattle.ix_closure.proofs.Adopting.AddedItems.{adds_next, adds_last}
use Rattle.ix_closure.proofs.Adopting.HomeAnswers.{recorded_further, arrival_due, adds_arrivals}
use Rattle.ix_closure.proofs.adopt.note_arrivals.Goals as goal

pub next-slot-requires-clause-slot : goal.next-slot-requires-clause-slot
next-slot-requires-clause-slot c = (recorded_further c.args.plan.now c.slot_count.ensures.planned c.args.banks.now.banks.items c.requires.sound c.args.cluster.rule c.args.cluster.at c.args.edge.slot c.args.edge.left c.requires.edge).0

pub next-slot-requires-clause-symbol : goal.next-slot-requires-clause-symbol
next-slot-requires-clause-symbol c = (recorded_further c.args.plan.now c.slot_count.ensures.planned c.args.banks.now.banks.items c.requires.sound c.args.cluster.rule c.args.cluster.at c.args.edge.slot c.args.edge.left c.requires.edge).1

pub note-requires-clause-follows : goal.note-requires-clause-follows
note-requires-clause-follows c =
    let within : c.loop-end.end-index < length c.ends-ends.result.now = omega (arith, c.loop-end-test.true) in
    arrival_due c.args.plan.now c.slot_count.ensures.planned c.args.banks.now.banks.items c.requires.sound c.args.cluster.rule c.args.cluster.at c.args.edge.slot c.args.edge.left c.home-m.result c.bank.result.now c.bank.ensures c.ends-ends.result.now c.ends-ends.ensures c.requires.edge
    c.loop-end.end-index _ (slice_get-get_or c.ends-ends.result.now c.loop-end.end-index 0 within) c.next-slot.result c.next-slot.ensures.number

pub loop-end-preserved : goal.loop-end-preserved
loop-end-preserved c =
    let within : c.loop-end.end-index < length c.ends-ends.result.now = omega (arith, c.loop-end-test.true) in
    adds_next same_step c.ends-ends.result.now (λ e. Lacks c.args.banks.now.banks.items (λ x. x ≡ arrival c.args.cluster.at e c.args.edge)) c.loop-end.end-index _ c.args.missing.now.keys c.loop-end.missing.keys c.note.new.missing.keys
    (slice_get-get_or c.ends-ends.result.now c.loop-end.end-index 0 within) c.loop-end.invariant
    (subst (λ (after : ℕ). Adds same_step (Lacks c.args.banks.now.banks.items (λ x. x ≡ Arrive (sub_at after c.args.edge.left c.args.cluster.at (slice_index_or c.ends-ends.result.now c.loop-end.end-index 0)))) c.loop-end.missing.keys c.note.new.missing.keys) c.next-slot.ensures.number c.in_ok-note.ensures)

pub returns : goal.returns
returns c =
    let len : length c.ends-ends.result.now ≡ c.loop-end.end-index = omega (arith, c.loop-end-test.false, c.loop-end.auto.end-index-end) in
    adds_arrivals c.args.plan.now c.slot_count.ensures.planned c.args.banks.now.banks.items c.requires.sound c.args.cluster.rule c.args.cluster.at c.args.edge.slot c.args.edge.left c.home-m.result c.bank.result.now c.bank.ensures c.ends-ends.result.now c.ends-ends.ensures
    (c.home-m.ensures ∙ ap (λ (n : ℕ). home c.args.cluster.rule c.args.cluster.at n) c.count.ensures) c.args.missing.now.keys c.loop-end.missing.keys
    (adds_last same_step c.ends-ends.result.now (λ e. Lacks c.args.banks.now.banks.items (λ x. x ≡ arrival c.args.cluster.at e c.args.edge)) c.loop-end.end-index c.args.missing.now.keys c.loop-end.missing.keys len c.loop-end.invariant)
