use Rattle.std.proofs.Common.{refl, ap, ◌∙◌}
use Rattle.ix_cluster.specs.BankSteps.{AddEdge, Opens}
use Rattle.ix_cluster.specs.Homes.{home}
use Rattle.ix_closure_laws.proofs.ClosedWithin.{edge_within}
use Rattle.ix_table.proofs.Turns.{edge_symbol, Taken, Made, taken_at, given_sound, given_grown, made}
use Rattle.ix_table.proofs.table.Table.add_edge.Goals as goal

pub add_edge-answer-requires-clause-slot : goal.add_edge-answer-requires-clause-slot
add_edge-answer-requires-clause-slot g c = (edge_within c.args.self.now.plan.now c.slot_count.ensures.planned c.args.rule c.args.at c.args.slot c.args.left c.requires.closed).1

pub add_edge-answer-requires-clause-symbol : goal.add_edge-answer-requires-clause-symbol
add_edge-answer-requires-clause-symbol g c = edge_symbol c.args.self.now.plan.now c.slot_count.ensures.planned c.args.rule c.args.at c.args.slot c.args.left c.requires.closed

-- before the bank is given back, and after
held : (g : _) (c : goal.After-give-arg-1 g) → Taken c.args.self.now.plan.now (AddEdge c.args.rule c.args.at c.args.slot c.args.left) c.args.pass.now c.take-held.new.pass c.take-held.result.place c.value.result.now c.add_edge-answer.new.self
held g c =
    let t = c.take-held.ensures in
    taken_at _ _ _ _ _ _ c.home-place.result _ c.take-held.result.value
    (c.home-place.ensures ∙ ap (home c.args.rule c.args.at) (c.places.ensures.places ∙ c.requires.pass.3)) c.requires.pass.2 t.fact t.known t.pass.2 t.pass.3 c.value.ensures.value
    (λ s. c.add_edge-answer.ensures.sound 64 _ s c.requires.closed refl)

held_then : (g : _) (c : goal.After-give g) → Taken c.args.self.now.plan.now (AddEdge c.args.rule c.args.at c.args.slot c.args.left) c.args.pass.now c.take-held.new.pass c.take-held.result.place c.value.result.now c.add_edge-answer.new.self
held_then g c =
    let t = c.take-held.ensures in
    taken_at _ _ _ _ _ _ c.home-place.result _ c.take-held.result.value
    (c.home-place.ensures ∙ ap (home c.args.rule c.args.at) (c.places.ensures.places ∙ c.requires.pass.3)) c.requires.pass.2 t.fact t.known t.pass.2 t.pass.3 c.value.ensures.value
    (λ s. c.add_edge-answer.ensures.sound 64 _ s c.requires.closed refl)

pub give-requires-clause-fact : goal.give-requires-clause-fact
give-requires-clause-fact g c = given_sound _ _ _ _ _ _ _ (held g c)

pub give-requires-clause-grown : goal.give-requires-clause-grown
give-requires-clause-grown g c = given_grown _ _ _ _ _ _ _ (held g c) (λ opened. Opens opened.first opened.ends.items) c.add_edge-answer.result (c.add_edge-answer.ensures.step) c.add_edge-answer.ensures.err

made_here : (g : _) (c : goal.After-give g) → Made c.args.self.now.plan.now c.args.pass.now (AddEdge c.args.rule c.args.at c.args.slot c.args.left) (λ opened. Opens opened.first opened.ends.items) c.add_edge-answer.result c.give.new.pass
made_here g c = made _ _ _ _ _ _ _ (held_then g c) (λ opened. Opens opened.first opened.ends.items) c.give.new.pass c.give.ensures.2 c.add_edge-answer.result (c.add_edge-answer.ensures.step) c.add_edge-answer.ensures.err

pub returns-clause-step : goal.returns-clause-step
returns-clause-step g c = (made_here g c).0

pub returns-clause-tells : goal.returns-clause-tells
returns-clause-tells g c = (made_here g c).1

pub returns-clause-err : goal.returns-clause-err
returns-clause-err g c = (made_here g c).2
