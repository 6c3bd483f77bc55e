use Rattle.std.proofs.Common.{◌≡◌, refl, sym, ap, subst, ◌∙◌, ◌-◌, ℕ, None, arith}
use Rattle.std.specs.List.{Contains}
use Rattle.ix_model.specs.declared.rules.Sym.{Sym}
use Rattle.ix_model.specs.declared.rules.Sym.TheVariants.{Rule}
use Rattle.ix_model.specs.Expansion.SlotPlaces.{HasNext}
use Rattle.ix_height.specs.declared.span.Span.{Span}
use Rattle.ix_height.specs.Spans.{of_slot, of_rule, slot_span}
use Rattle.ix_height.specs.Graph.{At}
use Rattle.ix_height.proofs.Linking.{child_of_use, there_of_use, Finds, next_edge, first_edge}
use Rattle.ix_height.proofs.edges.step_edge.Goals as goal

pub number_of-to-requires-clause-there : goal.number_of-to-requires-clause-there
number_of-to-requires-clause-there c =
    let plan = c.args.plan.now in
    subst (λ (z : Span). Contains c.args.spans.now z) (sym c.slot_span.ensures) (there_of_use plan c.requires.planned c.args.spans.now c.requires.spans (slot_span c.args.sub) (c.args.sub.pivot, c.requires.useful))

pub child_of-requires-clause-there : goal.child_of-requires-clause-there
child_of-requires-clause-there c = λ q mark e.
    let plan = c.args.plan.now in
    let h = c.in-Some.ensures.some in
    let n : HasNext plan h.0 c.args.sub.slot (Rule q mark) = subst (λ (z : Sym). HasNext plan h.0 c.args.sub.slot z) e h.2 in
    there_of_use plan c.requires.planned c.args.spans.now c.requires.spans (of_rule q c.args.sub.pivot c.args.sub.right) (child_of_use plan c.requires.planned c.args.sub h.0 q mark c.requires.useful n)

pub returns-in-None : goal.returns-in-None
returns-in-None c =
    let plan = c.args.plan.now in
    let spans = c.args.spans.now in
    let to : At spans c.number_of-to.result (slot_span c.args.sub) = subst (λ (z : Span). At spans c.number_of-to.result z) c.slot_span.ensures c.number_of-to.ensures in
    first_edge plan c.requires.planned spans c.requires.spans c.args.sub (record { to = c.number_of-to.result; one = None; two = None }) to (λ v x h. absurd (cc ((c.in-None.ensures.only v x h).0))) refl refl

pub returns-in-Some : goal.returns-in-Some
returns-in-Some c =
    let plan = c.args.plan.now in
    let spans = c.args.spans.now in
    let h = c.in-Some.ensures.some in
    let to : At spans c.number_of-to.result (slot_span c.args.sub) = subst (λ (z : Span). At spans c.number_of-to.result z) c.slot_span.ensures c.number_of-to.ensures in
    let back : c.args.sub.slot - 1 ≡ h.0 = omega (arith, h.1) in
    let same : c.of_slot.result ≡ of_slot h.0 c.args.sub.left c.args.sub.pivot = c.of_slot.ensures ∙ ap (λ (z : ℕ). of_slot z c.args.sub.left c.args.sub.pivot) back in
    let finds : Finds plan c.requires.planned spans c.requires.spans c.find.result (of_slot h.0 c.args.sub.left c.args.sub.pivot) = subst (λ (z : Span). Finds plan c.requires.planned spans c.requires.spans c.find.result z) same (c.find.ensures.some, c.find.ensures.none) in
    next_edge plan c.requires.planned spans c.requires.spans c.args.sub (record { to = c.number_of-to.result; one = c.find.result; two = c.child_of.result }) h.0 c.in-Some.sym to h.1 h.2 finds c.child_of.ensures
