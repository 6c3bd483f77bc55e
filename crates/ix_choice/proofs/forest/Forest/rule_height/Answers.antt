use Rattle.std.proofs.Common.{rules, subst}
use Rattle.ix_model.specs.Expansion.Parts.{Parts}
use Rattle.ix_height.specs.Heights.{AreHeights}
use Rattle.ix_choice.proofs.ForestFacts.{answered}
use Rattle.ix_choice.proofs.forest.Forest.rule_height.Goals as goal

pub returns : goal.returns
returns c =
    let heights : AreHeights c.args.self.now c.self.inside.heights.now = subst (λ (z : Parts). AreHeights z c.self.inside.heights.now) c.self.view_is c.self.invariant.2 in
    answered c.args.self.now c.args.rule c.args.low c.args.high c.unwrap.result c.of_rule.result (c.of_rule.ensures.least c.args.self.now heights) (search rules)
