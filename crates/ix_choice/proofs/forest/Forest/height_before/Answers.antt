use Rattle.std.proofs.Common.{sym, subst, ℕ}
use Rattle.ix_model.specs.Expansion.Parts.{Parts}
use Rattle.ix_model.specs.Expansion.Planned.{IsPlanned}
use Rattle.ix_height.specs.Heights.{AreHeights}
use Rattle.ix_height.specs.Heights.{IsLeastOf}
use Rattle.ix_choice.specs.SlotTrees.{HasHeightBefore}
use Rattle.ix_choice.proofs.ForestFacts.{least_before}
use Rattle.ix_choice.proofs.forest.Forest.height_before.Goals as goal

pub returns : goal.returns
returns c =
    let planned : IsPlanned c.args.self.now = subst IsPlanned c.self.view_is c.self.invariant.0 in
    let heights : AreHeights c.args.self.now c.self.inside.heights.now = subst (λ (z : Parts). AreHeights z c.self.inside.heights.now) c.self.view_is c.self.invariant.2 in
    subst (λ (h : ℕ). IsLeastOf (HasHeightBefore c.args.self.now c.args.slot c.args.low c.args.high) h) (sym c.unwrap_or.ensures)
    (least_before c.args.self.now planned c.args.slot c.args.low c.args.high c.of_slot.result (c.of_slot.ensures.least c.args.self.now heights) c.requires.used c.requires.trees)
