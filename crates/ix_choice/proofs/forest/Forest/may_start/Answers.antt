use Rattle.std.proofs.Common.{rules, ◌+◌, subst}
use Rattle.ix_model.specs.Expansion.Planned.{IsPlanned}
use Rattle.ix_choice.proofs.ForestFacts.{pivot_trees, starts}
use Rattle.ix_choice.proofs.SlotFacts.{before_used, child_used}
use Rattle.ix_choice.proofs.forest.Forest.may_start.Goals as goal

pub height_before-first-requires-clause-used : goal.height_before-first-requires-clause-used
height_before-first-requires-clause-used c =
    let planned : IsPlanned c.args.self.now = subst IsPlanned c.self.view_is c.self.invariant.0 in
    let t = pivot_trees c.args.self.now planned c.args.before (c.args.before + 1) c.args.low c.args.high c.args.sym c.requires.next c.args.pivot c.requires.useful in
    before_used c.args.self.now planned c.args.before (c.args.before + 1) c.args.sym c.requires.next c.args.low c.args.pivot c.args.high t.0 t.1 (c.args.pivot, c.requires.useful) t.2 t.3

pub height_before-first-requires-clause-trees : goal.height_before-first-requires-clause-trees
height_before-first-requires-clause-trees c =
    let planned : IsPlanned c.args.self.now = subst IsPlanned c.self.view_is c.self.invariant.0 in
    let t = pivot_trees c.args.self.now planned c.args.before (c.args.before + 1) c.args.low c.args.high c.args.sym c.requires.next c.args.pivot c.requires.useful in
    (t.0, t.2)

pub sym_height-last-requires-clause-used : goal.sym_height-last-requires-clause-used
sym_height-last-requires-clause-used c =
    let planned : IsPlanned c.args.self.now = subst IsPlanned c.self.view_is c.self.invariant.0 in
    let t = pivot_trees c.args.self.now planned c.args.before (c.args.before + 1) c.args.low c.args.high c.args.sym c.requires.next c.args.pivot c.requires.useful in
    child_used c.args.self.now planned c.args.before (c.args.before + 1) c.args.sym c.requires.next c.args.low c.args.pivot c.args.high t.0 t.1 (c.args.pivot, c.requires.useful) t.2 t.3

pub sym_height-last-requires-clause-tree : goal.sym_height-last-requires-clause-tree
sym_height-last-requires-clause-tree c =
    let planned : IsPlanned c.args.self.now = subst IsPlanned c.self.view_is c.self.invariant.0 in
    let t = pivot_trees c.args.self.now planned c.args.before (c.args.before + 1) c.args.low c.args.high c.args.sym c.requires.next c.args.pivot c.requires.useful in
    (t.1, t.3)

pub returns : goal.returns
returns c =
    starts c.args.self.now c.args.bound c.args.before c.args.low c.args.high c.args.pivot c.height_before-first.result c.sym_height-last.result c.max.result c.args.sym c.height_before-first.ensures c.sym_height-last.ensures (search rules)
