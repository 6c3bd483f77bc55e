use Rattle.std.proofs.lemmas.Result.{on_ok_weaker}
use Rattle.ix_subtrees.specs.Walks.{keys_of}
use Rattle.ix_subtrees.proofs.Walked.{visited_then}
use Rattle.ix_subtrees.proofs.marking.visit_next.Goals as goal

pub returns : goal.returns
returns c =
    let before = keys_of c.args.place.before c.args.node.key.left c.args.node.pivot in
    let child = keys_of c.args.place.child c.args.node.pivot c.args.node.key.right in
    on_ok_weaker c.visit_some-2.result
    (visited_then c.args.nodes.now before child c.args.marks.now c.args.todo.now.items c.visit_some.new.marks c.visit_some.new.todo.items c.visit_some-2.new.marks c.visit_some-2.new.todo.items c.in_ok-visit_some.ensures)
    c.visit_some-2.ensures
