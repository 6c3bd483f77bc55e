use Rattle.std.proofs.Common.{rules, ◌↔◌, ◌<◌, IsTrue, length}
use Rattle.std.specs.Prelude.{nat_lt}
use Rattle.ix_closure_laws.proofs.Frames.{useful_tree, tree_root, root_useful}
use Rattle.ix_subtrees.proofs.WrittenUses.{derived_useful, useful_derived}
use Rattle.ix_subtrees.proofs.Roots.{listed_useful, useful_listed}
use Rattle.ix_subtrees.proofs.set.SubSet.root.Goals as goal

pub returns-clause-numbered : goal.returns-clause-numbered
returns-clause-numbered c =
    let some : IsTrue (nat_lt 0 c.count.result) ↔ (0 < length c.args.self.now.ways) = search rules in
    λ plan planned set. (
      λ h. useful_tree plan planned (listed_useful plan c.args.self.now.ways set.ways (some.0 h)),
      λ h. some.1 (useful_listed plan c.args.self.now.ways set.ways (root_useful plan planned (tree_root plan planned h))),
    )

pub returns-clause-written : goal.returns-clause-written
returns-clause-written c =
    let some : IsTrue (nat_lt 0 c.count.result) ↔ (0 < length c.args.self.now.ways) = search rules in
    λ g plan p planned set. (
      λ h. useful_derived g plan p planned (listed_useful plan c.args.self.now.ways set.ways (some.0 h)),
      λ h. some.1 (useful_listed plan c.args.self.now.ways set.ways (derived_useful g plan p planned h.0 h.1)),
    )
