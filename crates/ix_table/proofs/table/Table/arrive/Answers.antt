use Rattle.std.proofs.Common.{refl, ◌∙◌}
use Rattle.ix_cluster.specs.BankSteps.{Arrive, Arrives}
use Rattle.ix_cluster.specs.Homes.{home}
use Rattle.ix_closure_laws.proofs.ClosedWithin.{part_within}
use Rattle.ix_table.proofs.Turns.{Taken, Made, taken_at, given_sound, given_grown, made}
use Rattle.ix_table.proofs.table.Table.arrive.Goals as goal

pub head-requires : goal.head-requires
head-requires g c = (part_within c.args.self.now.plan.now c.slot_count.ensures.planned c.args.sub.slot c.args.sub.left c.args.sub.pivot c.args.sub.right c.requires.closed).0

-- before the bank is given back, and after
held : (g : _) (c : goal.After-give-arg-1 g) → Taken c.args.self.now.plan.now (Arrive c.args.sub) c.args.pass.now c.take-held.new.pass c.take-held.result.place c.value.result.now c.arrive-answer.new.self
held g c =
    let t = c.take-held.ensures in
    taken_at _ _ _ _ _ _ c.home-place.result _ c.take-held.result.value
    (c.home-place.ensures ∙ (λ i. home (c.head.ensures i) c.args.sub.left ((c.places.ensures.places ∙ c.requires.pass.3) i))) c.requires.pass.2 t.fact t.known t.pass.2 t.pass.3 c.value.ensures.value
    (λ s. c.arrive-answer.ensures.sound _ 64 _ s c.requires.closed refl)

held_then : (g : _) (c : goal.After-give g) → Taken c.args.self.now.plan.now (Arrive c.args.sub) c.args.pass.now c.take-held.new.pass c.take-held.result.place c.value.result.now c.arrive-answer.new.self
held_then g c =
    let t = c.take-held.ensures in
    taken_at _ _ _ _ _ _ c.home-place.result _ c.take-held.result.value
    (c.home-place.ensures ∙ (λ i. home (c.head.ensures i) c.args.sub.left ((c.places.ensures.places ∙ c.requires.pass.3) i))) c.requires.pass.2 t.fact t.known t.pass.2 t.pass.3 c.value.ensures.value
    (λ s. c.arrive-answer.ensures.sound _ 64 _ s c.requires.closed refl)

pub give-requires-clause-fact : goal.give-requires-clause-fact
give-requires-clause-fact g c = given_sound _ _ _ _ _ _ _ (held g c)

pub give-requires-clause-grown : goal.give-requires-clause-grown
give-requires-clause-grown g c = given_grown _ _ _ _ _ _ _ (held g c) Arrives c.arrive-answer.result (c.arrive-answer.ensures.step _) c.arrive-answer.ensures.err

made_here : (g : _) (c : goal.After-give g) → Made c.args.self.now.plan.now c.args.pass.now (Arrive c.args.sub) Arrives c.arrive-answer.result c.give.new.pass
made_here g c = made _ _ _ _ _ _ _ (held_then g c) Arrives c.give.new.pass c.give.ensures.2 c.arrive-answer.result (c.arrive-answer.ensures.step _) c.arrive-answer.ensures.err

pub returns-clause-step : goal.returns-clause-step
returns-clause-step g c = (made_here g c).0

pub returns-clause-tells : goal.returns-clause-tells
returns-clause-tells g c = (made_here g c).1

pub returns-clause-err : goal.returns-clause-err
returns-clause-err g c = (made_here g c).2
