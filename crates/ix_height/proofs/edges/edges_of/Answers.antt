use Rattle.std.proofs.Common.{rules, ◌≡◌, ◌<◌, sym, subst, length, ℕ, List}
use Rattle.ix_model.specs.declared.sub.Sub.{Sub}
use Rattle.ix_model.specs.Closure.Useful.{Useful}
use Rattle.ix_height.specs.declared.edge.Edge.{Edge}
use Rattle.ix_height.specs.SpanLists.{way_at}
use Rattle.ix_height.specs.Edges.{EdgesSoFar}
use Rattle.ix_height.proofs.Gathering.{useful_at, slot_within}
use Rattle.ix_height.proofs.EdgeGathering.{edges_none, edges_step}
use Rattle.ix_height.proofs.edges.edges_of.Goals as goal

pub step_edge-requires-clause-slot : goal.step_edge-requires-clause-slot
step_edge-requires-clause-slot c =
    let within : c.loop-at.at < length c.args.set.now.ways = search rules in
    let e : c.sub-sub.result ≡ way_at c.args.set.now.ways c.loop-at.at = c.sub-sub.ensures in
    subst (λ (z : Sub). z.slot < length c.args.plan.now.slots) (sym e) (slot_within c.args.plan.now c.requires.planned (way_at c.args.set.now.ways c.loop-at.at) (useful_at c.args.plan.now c.requires.planned c.args.set.now.ways c.loop-at.at c.requires.set.ways within))

pub step_edge-requires-clause-useful : goal.step_edge-requires-clause-useful
step_edge-requires-clause-useful c =
    let within : c.loop-at.at < length c.args.set.now.ways = search rules in
    let e : c.sub-sub.result ≡ way_at c.args.set.now.ways c.loop-at.at = c.sub-sub.ensures in
    subst (λ (z : Sub). Useful c.args.plan.now z) (sym e) (useful_at c.args.plan.now c.requires.planned c.args.set.now.ways c.loop-at.at c.requires.set.ways within)

pub whole_edge-requires-clause-slot : goal.whole_edge-requires-clause-slot
whole_edge-requires-clause-slot c =
    let within : c.loop-at.at < length c.args.set.now.ways = search rules in
    let e : c.sub-sub.result ≡ way_at c.args.set.now.ways c.loop-at.at = c.sub-sub.ensures in
    subst (λ (z : Sub). z.slot < length c.args.plan.now.slots) (sym e) (slot_within c.args.plan.now c.requires.planned (way_at c.args.set.now.ways c.loop-at.at) (useful_at c.args.plan.now c.requires.planned c.args.set.now.ways c.loop-at.at c.requires.set.ways within))

pub whole_edge-requires-clause-useful : goal.whole_edge-requires-clause-useful
whole_edge-requires-clause-useful c =
    let within : c.loop-at.at < length c.args.set.now.ways = search rules in
    let e : c.sub-sub.result ≡ way_at c.args.set.now.ways c.loop-at.at = c.sub-sub.ensures in
    subst (λ (z : Sub). Useful c.args.plan.now z) (sym e) (useful_at c.args.plan.now c.requires.planned c.args.set.now.ways c.loop-at.at c.requires.set.ways within)

pub loop-at-init : goal.loop-at-init
loop-at-init c = subst (λ (z : List Edge). EdgesSoFar c.args.plan.now c.args.spans.now c.args.set.now.ways 0 z) (sym c.new-out.ensures.items) (edges_none c.args.plan.now c.requires.planned c.args.spans.now c.args.set.now.ways)

pub loop-at-preserved : goal.loop-at-preserved
loop-at-preserved c =
    let within : c.loop-at.at < length c.args.set.now.ways = search rules in
    edges_step c.args.plan.now c.requires.planned c.args.spans.now c.args.set.now.ways c.loop-at.at c.loop-at.out.items c.push_edges.new.out.items c.step_edge.result c.whole_edge.result c.sub-sub.result c.sub-sub.ensures c.requires.set.ways within c.step_edge.ensures
    c.whole_edge.ensures.some c.whole_edge.ensures.only c.whole_edge.ensures.there (search rules) c.loop-at.invariant

pub returns : goal.returns
returns c = subst (λ (z : ℕ). EdgesSoFar c.args.plan.now c.args.spans.now c.args.set.now.ways z c.loop-at.out.items) (search rules) c.loop-at.invariant
