use Rattle.std.proofs.Common.{rules, ◌≡◌, ◌<◌, ◌∙◌, ap, sym, subst, length, ℕ, List, Option, Some, IfSome, arith}
use Rattle.ix_model.specs.declared.sub.Sub.{Sub}
use Rattle.ix_height.specs.declared.span.Span.{Span}
use Rattle.ix_height.specs.Spans.{slot_span}
use Rattle.ix_height.specs.SpanLists.{SpansSoFar, way_at}
use Rattle.ix_height.proofs.Gathering.{useful_at, slot_within, spans_none, spans_step, spans_again}
use Rattle.ix_height.proofs.spans.unsorted.Goals.{then-not-is_last+in_ok-push_spans, else-not-is_last}
use Rattle.ix_height.proofs.spans.unsorted.Goals as goal

pub whole_span-requires-clause-slot : goal.whole_span-requires-clause-slot
whole_span-requires-clause-slot c =
    let within : c.loop-at.at < length c.args.set.now.ways = search rules in
    let e : c.sub-sub.result ≡ way_at c.args.set.now.ways c.loop-at.at = c.sub-sub.ensures in
    subst (λ (z : Sub). z.slot < length c.args.plan.now.slots) (sym e) (slot_within c.args.plan.now c.requires.planned (way_at c.args.set.now.ways c.loop-at.at) (useful_at c.args.plan.now c.requires.planned c.args.set.now.ways c.loop-at.at c.requires.set.ways within))

pub loop-at-init : goal.loop-at-init
loop-at-init c = record { spans = subst (λ (z : List Span). SpansSoFar c.args.plan.now c.args.set.now.ways 0 z) (sym c.new-out.ensures.items) (spans_none c.args.plan.now c.requires.planned c.args.set.now.ways); last = tt }

pub loop-at-preserved : goal.loop-at-preserved
loop-at-preserved c =
    let within : c.loop-at.at < length c.args.set.now.ways = search rules in
    let ways = c.args.set.now.ways in
    let span_is : slot_span (way_at ways c.loop-at.at) ≡ c.slot_span-span.result = sym (c.slot_span-span.ensures ∙ ap slot_span c.sub-sub.ensures) in
    record {
      spans = elim c.if-not-is_last.branch [
        | then-not-is_last+in_ok-push_spans w ↦ rw w.out-is (spans_step c.args.plan.now c.requires.planned ways c.loop-at.at c.loop-at.out.items w.push_spans.new.out.items c.slot_span-span.result w.whole_span.result c.sub-sub.result c.sub-sub.ensures c.requires.set.ways within c.slot_span-span.ensures
            w.whole_span.ensures.some w.whole_span.ensures.only (search rules) c.loop-at.invariant.spans)
        | else-not-is_last w ↦
            let same : c.loop-at.last ≡ Some c.slot_span-span.result = search rules in
            let i : (i : ℕ) × (i < c.loop-at.at) × (slot_span (way_at ways i) ≡ c.slot_span-span.result) = subst (λ (z : Option Span). IfSome z (λ t. (i : ℕ) × (i < c.loop-at.at) × (slot_span (way_at ways i) ≡ t))) same c.loop-at.invariant.last in
            rw w.out-is (spans_again c.args.plan.now c.requires.planned ways c.loop-at.at i.0 c.loop-at.out.items i.1 (i.2 ∙ sym span_is) c.loop-at.invariant.spans)
      ];
      last = (c.loop-at.at, omega arith, span_is);
    }

pub returns : goal.returns
returns c = subst (λ (z : ℕ). SpansSoFar c.args.plan.now c.args.set.now.ways z c.loop-at.out.items) (search rules) c.loop-at.invariant.spans
