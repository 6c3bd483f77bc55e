use Rattle.std.proofs.Common.{◌≡◌, sym, subst, ◌∙◌, ap, List, ℕ, Bool, length}
use Rattle.std.proofs.lemmas.List.{length-map}
use Rattle.ix_height.specs.declared.edge.Edge.{Edge}
use Rattle.ix_height.specs.Low.{AreLeast}
use Rattle.ix_height.specs.Work.{AreWithin}
use Rattle.ix_height.specs.Spans.{is_raised}
use Rattle.ix_height.proofs.Graphing.{rules_there, graph_is, graph_within, heights_are}
use Rattle.ix_height.proofs.least.levels_of.Goals as goal

pub raised_of-requires : goal.raised_of-requires
raised_of-requires c = rules_there c.args.plan.now c.requires.planned c.args.spans.now c.requires.spans

pub index_of-requires-clause-within : goal.index_of-requires-clause-within
index_of-requires-clause-within c =
    let graph = graph_is c.args.plan.now c.requires.planned c.args.spans.now c.requires.spans c.args.set.now.ways c.in_ok-edges.edges.items c.in_ok-raised.raised.items c.requires.set.ways c.in_ok-edges.ensures c.in_ok-raised.ensures in
    let within = graph_within c.args.plan.now c.requires.planned c.args.spans.now c.requires.spans c.in_ok-edges.edges.items c.in_ok-raised.raised.items graph in
    let count : length c.args.spans.now ≡ length c.deref-2.result.now = sym (ap (λ (z : List Bool). length z) (c.deref-2.ensures.value ∙ c.in_ok-raised.ensures) ∙ length-map c.args.spans.now (is_raised c.args.plan.now)) in
    subst (λ (z : List Edge). AreWithin z (length c.deref-2.result.now)) (sym c.deref.ensures.value) (subst (λ (z : ℕ). AreWithin c.in_ok-edges.edges.items z) count within)

pub heights_of-requires-clause-edges : goal.heights_of-requires-clause-edges
heights_of-requires-clause-edges c =
    let graph = graph_is c.args.plan.now c.requires.planned c.args.spans.now c.requires.spans c.args.set.now.ways c.in_ok-edges.edges.items c.in_ok-raised.raised.items c.requires.set.ways c.in_ok-edges.ensures c.in_ok-raised.ensures in
    let within = graph_within c.args.plan.now c.requires.planned c.args.spans.now c.requires.spans c.in_ok-edges.edges.items c.in_ok-raised.raised.items graph in
    let count : length c.args.spans.now ≡ length c.deref-4.result.now = sym (ap (λ (z : List Bool). length z) (c.deref-4.ensures.value ∙ c.in_ok-raised.ensures) ∙ length-map c.args.spans.now (is_raised c.args.plan.now)) in
    subst (λ (z : List Edge). AreWithin z (length c.deref-4.result.now)) (sym c.deref-3.ensures.value) (subst (λ (z : ℕ). AreWithin c.in_ok-edges.edges.items z) count within)

pub returns-clause-heights : goal.returns-clause-heights
returns-clause-heights c =
    let graph = graph_is c.args.plan.now c.requires.planned c.args.spans.now c.requires.spans c.args.set.now.ways c.in_ok-edges.edges.items c.in_ok-raised.raised.items c.requires.set.ways c.in_ok-edges.ensures c.in_ok-raised.ensures in
    let least : AreLeast c.in_ok-edges.edges.items c.in_ok-raised.raised.items c.in_ok-heights.heights.items =
    subst (λ (z : List Edge). AreLeast z c.in_ok-raised.raised.items c.in_ok-heights.heights.items) c.deref-3.ensures.value (subst (λ (z : List Bool). AreLeast c.deref-3.result.now z c.in_ok-heights.heights.items) c.deref-4.ensures.value c.in_ok-heights.ensures.least) in
    heights_are c.args.plan.now c.requires.planned c.args.spans.now c.requires.spans c.in_ok-edges.edges.items c.in_ok-raised.raised.items graph c.in_ok-heights.heights.items (c.in_ok-heights.ensures.count ∙ ap (λ (z : List Bool). length z) (c.deref-4.ensures.value ∙ c.in_ok-raised.ensures) ∙ length-map c.args.spans.now (is_raised c.args.plan.now)) least

pub returns-clause-count : goal.returns-clause-count
returns-clause-count c = c.in_ok-heights.ensures.count ∙ ap (λ (z : List Bool). length z) (c.deref-4.ensures.value ∙ c.in_ok-raised.ensures) ∙ length-map c.args.spans.now (is_raised c.args.plan.now)
