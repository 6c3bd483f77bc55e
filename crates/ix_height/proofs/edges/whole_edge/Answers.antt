use Rattle.std.proofs.Common.{◌≡◌, refl, sym, subst, Some, None}
use Rattle.std.specs.List.{Contains}
use Rattle.ix_height.specs.declared.span.Span.{Span}
use Rattle.ix_height.specs.Spans.{of_rule, slot_span}
use Rattle.ix_height.specs.Graph.{At}
use Rattle.ix_height.proofs.Linking.{there_of_use, whole_edge}
use Rattle.ix_height.proofs.edges.whole_edge.Goals as goal

pub number_of-requires-clause-there : goal.number_of-requires-clause-there
number_of-requires-clause-there c =
    let plan = c.args.plan.now in
    let h = c.in-Some.ensures.some in
    subst (λ (z : Span). Contains c.args.spans.now z) (sym h.2) (there_of_use plan c.requires.planned c.args.spans.now c.requires.spans (of_rule h.0 c.args.sub.left c.args.sub.right) (c.args.sub.slot, c.args.sub.pivot, h.1, c.requires.useful))

pub number_of-requires-in-Some-clause-there : goal.number_of-requires-in-Some-clause-there
number_of-requires-in-Some-clause-there c =
    let plan = c.args.plan.now in
    subst (λ (z : Span). Contains c.args.spans.now z) (sym c.slot_span.ensures) (there_of_use plan c.requires.planned c.args.spans.now c.requires.spans (slot_span c.args.sub) (c.args.sub.pivot, c.requires.useful))

pub returns-in-None-clause-there : goal.returns-in-None-clause-there
returns-in-None-clause-there c = λ q last e. absurd (cc (c.in-None.ensures.only q last))

pub returns-in-Some-clause-some : goal.returns-in-Some-clause-some
returns-in-Some-clause-some c =
    let plan = c.args.plan.now in
    let spans = c.args.spans.now in
    let h = c.in-Some.ensures.some in
    let one : At spans c.number_of-in-Some.result (slot_span c.args.sub) = subst (λ (z : Span). At spans c.number_of-in-Some.result z) c.slot_span.ensures c.number_of-in-Some.ensures in
    let to : At spans c.number_of.result (of_rule h.0 c.args.sub.left c.args.sub.right) = subst (λ (z : Span). At spans c.number_of.result z) h.2 c.number_of.ensures in
    (h.0, h.1, whole_edge plan c.requires.planned spans c.requires.spans c.args.sub (record { to = c.number_of.result; one = Some c.number_of-in-Some.result; two = None }) h.0 c.number_of-in-Some.result to refl one refl)

pub returns-in-Some-clause-only : goal.returns-in-Some-clause-only
returns-in-Some-clause-only c = λ q last.
    let plan = c.args.plan.now in
    let spans = c.args.spans.now in
    let same : c.in-Some.span ≡ of_rule q c.args.sub.left c.args.sub.right = cc (c.in-Some.ensures.only q last) in
    let one : At spans c.number_of-in-Some.result (slot_span c.args.sub) = subst (λ (z : Span). At spans c.number_of-in-Some.result z) c.slot_span.ensures c.number_of-in-Some.ensures in
    let to : At spans c.number_of.result (of_rule q c.args.sub.left c.args.sub.right) = subst (λ (z : Span). At spans c.number_of.result z) same c.number_of.ensures in
    whole_edge plan c.requires.planned spans c.requires.spans c.args.sub (record { to = c.number_of.result; one = Some c.number_of-in-Some.result; two = None }) q c.number_of-in-Some.result to refl one refl
