use Rattle.std.proofs.Common.{◌∷◌, []}
use Rattle.std.proofs.lemmas.Result.{on_ok_weaker}
use Rattle.ix_cluster.specs.declared.fact.Fact.TheVariants as fact
use Rattle.ix_cluster.proofs.Members.{first_has}
use Rattle.ix_closure.proofs.Adopting.BroughtByFacts.{brought_due, adds_next_step, adds_no_step}
use Rattle.ix_closure.proofs.Adopting.HomeAnswers.{claim_within}
use Rattle.ix_closure.proofs.adopt.note_next.Goals as goal

pub next_step-requires-clause-slot : goal.next_step-requires-clause-slot
next_step-requires-clause-slot c = (claim_within c.args.plan.now c.slot_count.ensures.planned c.args.banks.now.banks.items c.requires.sound c.args.descriptor.slot c.args.descriptor.left c.args.descriptor.pos c.requires.claim).0

pub next_step-requires-clause-pos : goal.next_step-requires-clause-pos
next_step-requires-clause-pos c = (claim_within c.args.plan.now c.slot_count.ensures.planned c.args.banks.now.banks.items c.requires.sound c.args.descriptor.slot c.args.descriptor.left c.args.descriptor.pos c.requires.claim).1

pub note-requires-clause-follows : goal.note-requires-clause-follows
note-requires-clause-follows c =
    brought_due c.args.plan.now c.slot_count.ensures.planned c.args.banks.now.banks.items c.requires.sound (fact.Claim c.args.descriptor.slot c.args.descriptor.left c.args.descriptor.pos) c.in-Some.step c.requires.claim
    (c.in-Some.step ∷ [], c.in-Some.ensures, first_has c.in-Some.step [])

pub returns-in-Some : goal.returns-in-Some
returns-in-Some c = on_ok_weaker c.note.result (adds_next_step c.args.plan.now c.slot_count.ensures.planned c.args.banks.now.banks.items c.requires.sound c.args.descriptor.slot c.args.descriptor.left c.args.descriptor.pos c.in-Some.step c.args.missing.now.keys c.note.new.missing.keys c.in-Some.ensures) c.note.ensures

pub returns-in-None : goal.returns-in-None
returns-in-None c = adds_no_step c.args.plan.now c.slot_count.ensures.planned c.args.banks.now.banks.items c.requires.sound c.args.descriptor.slot c.args.descriptor.left c.args.descriptor.pos c.args.missing.now.keys c.in-None.ensures
