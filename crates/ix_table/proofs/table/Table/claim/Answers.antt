use Rattle.std.proofs.Common.{◌∙◌}
use Rattle.ix_cluster.specs.BankSteps.{MakeClaim, Belongs}
use Rattle.ix_cluster.specs.Homes.{home}
use Rattle.ix_table.proofs.Turns.{always, Taken, Made, taken_at, given_sound, given_grown, made}
use Rattle.ix_table.proofs.table.Table.claim.Goals as goal

-- before the bank is given back, and after
held : (g : _) (c : goal.After-give-arg-1 g) → Taken c.args.self.now.plan.now (MakeClaim c.args.slot c.args.left c.args.pos) c.args.pass.now c.take-held.new.pass c.take-held.result.place c.value.result.now c.claim-answer.new.self
held g c =
    let t = c.take-held.ensures in
    taken_at _ _ _ _ _ _ c.home-place.result _ c.take-held.result.value
    (c.home-place.ensures ∙ (λ i. home (c.head.ensures i) c.args.left ((c.places.ensures.places ∙ c.requires.pass.3) i))) c.requires.pass.2 t.fact t.known t.pass.2 t.pass.3 c.value.ensures.value
    (λ s. c.claim-answer.ensures.sound _ 64 _ s)

held_then : (g : _) (c : goal.After-give g) → Taken c.args.self.now.plan.now (MakeClaim c.args.slot c.args.left c.args.pos) c.args.pass.now c.take-held.new.pass c.take-held.result.place c.value.result.now c.claim-answer.new.self
held_then g c =
    let t = c.take-held.ensures in
    taken_at _ _ _ _ _ _ c.home-place.result _ c.take-held.result.value
    (c.home-place.ensures ∙ (λ i. home (c.head.ensures i) c.args.left ((c.places.ensures.places ∙ c.requires.pass.3) i))) c.requires.pass.2 t.fact t.known t.pass.2 t.pass.3 c.value.ensures.value
    (λ s. c.claim-answer.ensures.sound _ 64 _ s)

pub give-requires-clause-fact : goal.give-requires-clause-fact
give-requires-clause-fact g c = given_sound _ _ _ _ _ _ _ (held g c)

pub give-requires-clause-grown : goal.give-requires-clause-grown
give-requires-clause-grown g c = given_grown _ _ _ _ _ _ _ (held g c) Belongs (always c.claim-answer.result) (c.claim-answer.ensures.step _) tt

made_here : (g : _) (c : goal.After-give g) → Made c.args.self.now.plan.now c.args.pass.now (MakeClaim c.args.slot c.args.left c.args.pos) Belongs (always c.claim-answer.result) c.give.new.pass
made_here g c = made _ _ _ _ _ _ _ (held_then g c) Belongs c.give.new.pass c.give.ensures.2 (always c.claim-answer.result) (c.claim-answer.ensures.step _) tt

pub returns-clause-step : goal.returns-clause-step
returns-clause-step g c = (made_here g c).0

pub returns-clause-tells : goal.returns-clause-tells
returns-clause-tells g c = (made_here g c).1
