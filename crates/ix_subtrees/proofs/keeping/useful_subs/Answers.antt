use Rattle.std.proofs.Common.{rules, ◌≡◌, sym, ap, subst, ◌<◌, List, length, get_or, arith}
use Rattle.std.proofs.lemmas.Result.{IfOk-weaker}
use Rattle.ix_model.specs.declared.sub.Sub.{Sub}
use Rattle.ix_subtrees.specs.declared.place.Place.{Place}
use Rattle.ix_subtrees.specs.declared.node.Node.{Node}
use Rattle.ix_subtrees.specs.Nodes.{no_node}
use Rattle.ix_subtrees.specs.Subs.{kept}
use Rattle.ix_subtrees.specs.UsefulSubs.{AreUseful}
use Rattle.ix_subtrees.proofs.Meaning.{kept_useful, nodes_below, subs_below}
use Rattle.ix_subtrees.proofs.keeping.useful_subs.Goals as goal

pub nodes_of-requires : goal.nodes_of-requires
nodes_of-requires c = λ i h. omega (arith, subs_below c.args.plan.now c.places.ensures.planned c.args.subs.now c.requires i h, c.in_ok-places.ensures.places.all, ap (λ (z : List Place). length z) c.deref.ensures.value)

pub marked-requires-clause-slots : goal.marked-requires-clause-slots
marked-requires-clause-slots c = λ i h.
    subst (λ (z : List Node). (get_or z i no_node).slot < length c.deref-2.result.now) (sym c.deref-3.ensures.value)
    (omega (
      arith,
      nodes_below c.args.plan.now c.places.ensures.planned c.in_ok-places.places.items c.args.subs.now c.in_ok-nodes.nodes.items c.in_ok-places.ensures.places c.requires (search rules) i (search rules),
      c.in_ok-places.ensures.places.all,
      ap (λ (z : List Place). length z) c.deref-2.ensures.value,
    ))

pub returns-clause-useful : goal.returns-clause-useful
returns-clause-useful c =
    IfOk-weaker c.kept_of.result (λ v. v.items ≡ kept c.deref-4.result.now c.deref-5.result.now) (λ v. AreUseful c.args.plan.now v.items)
    (λ v e. subst (λ (z : List Sub). AreUseful c.args.plan.now z) (sym e)
    (kept_useful c.args.plan.now c.places.ensures.planned c.in_ok-places.places.items c.args.subs.now c.deref-4.result.now c.in_ok-places.ensures.places c.requires (search rules) c.deref-5.result.now (search rules)))
    c.kept_of.ensures
