use Rattle.std.proofs.Common.{◌≡◌, ◌∙◌, ℕ, length, ap}
use Rattle.ix_cluster.specs.Facts.{has}
use Rattle.ix_closure.specs.Events.{home_for}
use Rattle.ix_closure.proofs.Adopting.AddedItems.{adds_step}
use Rattle.ix_closure.proofs.Adopting.HomeAnswers.{due_slot, adds_recorded, adds_lacking}
use Rattle.ix_closure.proofs.adopt.note.Goals as goal

pub home_for-m-requires-clause-slot : goal.home_for-m-requires-clause-slot
home_for-m-requires-clause-slot c = due_slot c.args.plan.now c.slot_count.ensures.planned c.args.banks.now.banks.items c.requires.sound c.args.step c.requires.follows

pub returns-then-has : goal.returns-then-has
returns-then-has c =
    let home : c.home_for-m.result ≡ home_for c.args.plan.now (length c.args.banks.now.banks.items) c.args.step = c.home_for-m.ensures ∙ ap (λ (n : ℕ). home_for c.args.plan.now n c.args.step) c.count.ensures in
    adds_recorded c.args.plan.now c.slot_count.ensures.planned c.args.banks.now.banks.items c.requires.sound c.args.step c.home_for-m.result c.bank.result.now c.bank.ensures home c.has.result (c.has.ensures ∙ ap (has c.bank.result.now.log) c.fact_of.ensures) c.args.missing.now.keys c.args.missing.now.keys c.if-has.true

pub returns-in-Ok : goal.returns-in-Ok
returns-in-Ok c =
    let home : c.home_for-m.result ≡ home_for c.args.plan.now (length c.args.banks.now.banks.items) c.args.step = c.home_for-m.ensures ∙ ap (λ (n : ℕ). home_for c.args.plan.now n c.args.step) c.count.ensures in
    adds_lacking c.args.plan.now c.slot_count.ensures.planned c.args.banks.now.banks.items c.requires.sound c.args.step c.home_for-m.result c.bank.result.now c.bank.ensures home c.has.result (c.has.ensures ∙ ap (has c.bank.result.now.log) c.fact_of.ensures) c.args.missing.now.keys c.insert.new.self.keys c.if-has.false
    (adds_step c.args.missing.now.keys c.insert.new.self.keys c.args.step c.in-Ok.ensures.keys)
