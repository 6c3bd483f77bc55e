use Rattle.std.proofs.Common.{◌≡◌, rules, ap, sym, ◌∙◌, subst, List, length, arith, true, false}
use Rattle.std.specs.List.Sorted.{IsPartitionedBy, IsPartitionPoint}
use Rattle.std.proofs.lemmas.List.Sorted.{IsPartitionPoint-from_clause}
use Rattle.ix_model.specs.declared.plan.SlotInfo.{SlotInfo}
use Rattle.ix_model.specs.Expansion.Parts.{Parts}
use Rattle.ix_model.specs.Expansion.Planned.{IsPlanned}
use Rattle.ix_model.specs.Expansion.Numbering.{is_before}
use Rattle.ix_model.proofs.Readers.{first_is, split_by}
use Rattle.ix_model.proofs.plan.Plan.first.Goals as goal

pub returns : goal.returns
returns c =
    let planned : IsPlanned c.args.self.now = subst IsPlanned c.self.view_is c.self.invariant in
    let same : c.deref.result.now ≡ c.args.self.now.slots = c.deref.ensures.value ∙ ap (λ (p : Parts). p.slots) c.self.view_is in
    let split = subst (λ (xs : List SlotInfo). IsPartitionedBy (is_before c.args.rule c.args.alt) xs) (sym same) (split_by c.args.self.now planned c.args.rule c.args.alt) in
    let point = IsPartitionPoint-from_clause (is_before c.args.rule c.args.alt) _ _ c.partition_point.ensures.partitioned split (λ a r q k. search rules) in
    first_is c.args.self.now planned c.args.rule c.args.alt c.partition_point.result c.requires.rule c.requires.alt (omega (arith, c.partition_point.ensures.bound, ap (λ (xs : List SlotInfo). length xs) same))
    (subst (λ (xs : List SlotInfo). IsPartitionPoint (λ s. is_before c.args.rule c.args.alt s ≡ true) (λ s. is_before c.args.rule c.args.alt s ≡ false) xs c.partition_point.result) same point)
