use Rattle.std.proofs.Common.{rules, true, refl, set}
use mathlib.Core.Logic.{inl, inr}
use Rattle.ix_subtrees.proofs.Visits.{visiting_next, visited_all}
use Rattle.ix_subtrees.proofs.marking.visit.Goals as goal

pub loop-at-preserved : goal.loop-at-preserved
loop-at-preserved c =
    visiting_next c.args.nodes.now c.args.key c.first_at-at.result c.args.marks.now c.args.todo.now.items c.loop-at.at c.loop-at.marks c.loop-at.todo.items
    (set c.loop-at.marks c.loop-at.at true) c.push.new.self.items c.requires.same c.loop-at.invariant c.loop-at-test.true (search rules) (search rules) refl (search rules)

pub returns-else-not-marks-at : goal.returns-else-not-marks-at
returns-else-not-marks-at c =
    visited_all c.args.nodes.now c.args.key c.first_at-at.result c.args.marks.now c.args.todo.now.items c.loop-at.at c.loop-at.marks c.loop-at.todo.items c.requires.order c.requires.together c.loop-at.invariant (inr (inr (search rules)))

pub returns-else-eq : goal.returns-else-eq
returns-else-eq c =
    visited_all c.args.nodes.now c.args.key c.first_at-at.result c.args.marks.now c.args.todo.now.items c.loop-at.at c.loop-at.marks c.loop-at.todo.items c.requires.order c.requires.together c.loop-at.invariant (inr (inl (search rules)))
