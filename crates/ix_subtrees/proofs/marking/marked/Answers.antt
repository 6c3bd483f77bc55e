use Rattle.std.proofs.Common.{rules, refl, length, ◌∙◌}
use Rattle.std.proofs.lemmas.List.{with_items_is}
use Rattle.ix_subtrees.proofs.Made.{walking_begun}
use Rattle.ix_subtrees.proofs.marking.marked.Goals as goal

pub walk-requires-clause-walking : goal.walk-requires-clause-walking
walk-requires-clause-walking c =
    walking_begun c.args.places.now c.args.nodes.now c.args.root (length c.args.nodes.now) c.deref_mut.result.now c.visit.new.marks c.deref_mut-2.result.now c.new-todo.result.items c.visit.new.todo.items
    (search rules) refl (search rules) (c.deref_mut-2.ensures.value ∙ with_items_is c.in_ok-marks.marks c.visit.new.marks (search rules)) (search rules) (search rules)
