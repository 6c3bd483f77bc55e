use Rattle.std.proofs.Common.{rules}
use Rattle.ix_subtrees.proofs.Walked.{walking_next, popped, ended}
use Rattle.ix_subtrees.proofs.marking.walk.Goals as goal

pub bounds-nodes-at : goal.bounds-nodes-at
bounds-nodes-at c = (popped c.args.places.now c.args.nodes.now c.args.root c.loop-at.marks c.loop-at.todo.items c.pop.new.self.items c.in-Some.at c.in-Some.ensures.items c.loop-at.invariant).0

pub offset_bounds-nodes-at : goal.offset_bounds-nodes-at
offset_bounds-nodes-at c =
    let b = (popped c.args.places.now c.args.nodes.now c.args.root c.loop-at.marks c.loop-at.todo.items c.pop.new.self.items c.in-Some.at c.in-Some.ensures.items c.loop-at.invariant).0 in
    search (rules, b)

pub bounds-places-node : goal.bounds-places-node
bounds-places-node c =
    let b = (popped c.args.places.now c.args.nodes.now c.args.root c.loop-at.marks c.loop-at.todo.items c.pop.new.self.items c.in-Some.at c.in-Some.ensures.items c.loop-at.invariant).0 in
    c.requires.slots c.in-Some.at b

pub loop-at-preserved : goal.loop-at-preserved
loop-at-preserved c =
    walking_next c.args.places.now c.args.nodes.now c.args.root c.loop-at.marks c.loop-at.todo.items c.pop.new.self.items c.in-Some.at c.visit_next.new.marks c.visit_next.new.todo.items c.in-Some.ensures.items c.loop-at.invariant (search rules)

pub returns : goal.returns
returns c = ended c.args.places.now c.args.nodes.now c.args.root c.loop-at.marks c.loop-at.todo.items (search rules) c.loop-at.invariant
