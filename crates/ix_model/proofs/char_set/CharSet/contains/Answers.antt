use Rattle.std.proofs.Common.{◌≡◌, rules, ap, sym, ◌∙◌, List, true, false, subst}
use Rattle.std.specs.Prelude.{nat_lt, slice_get}
use Rattle.std.specs.Option.{option_copied}
use Rattle.std.specs.List.Sorted.{IsPartitionedBy, IsPartitionPoint}
use Rattle.std.proofs.lemmas.List.Sorted.{IsPartitionPoint-from_clause}
use Rattle.ix_model.specs.declared.char_set.CharRange.{CharRange}
use Rattle.ix_model.specs.Matching.Ranges.{AreApart}
use Rattle.ix_model.proofs.Held.{parted, holds_at, holds_none}
use Rattle.ix_model.proofs.char_set.CharSet.contains.Goals as goal

pub returns-in-Some : goal.returns-in-Some
returns-in-Some c =
    let apart : AreApart c.args.self.now = subst AreApart c.self.view_is c.self.invariant in
    let same : c.as_slice-ranges.result.now ≡ c.args.self.now = c.as_slice-ranges.ensures ∙ c.self.view_is in
    let split = subst (λ (xs : List CharRange). IsPartitionedBy (λ (r : CharRange). nat_lt r.high c.args.c) xs) (sym same) (parted c.args.c c.args.self.now apart) in
    let point = IsPartitionPoint-from_clause (λ (r : CharRange). nat_lt r.high c.args.c) _ _ c.partition_point-before.ensures.partitioned split (λ a r q k. search rules) in
    let there = subst (λ (xs : List CharRange). IsPartitionPoint (λ (r : CharRange). nat_lt r.high c.args.c ≡ true) (λ (r : CharRange). nat_lt r.high c.args.c ≡ false) xs c.partition_point-before.result) same point in
    holds_at c.args.c c.args.self.now apart c.partition_point-before.result c.in-Some.range.now (sym (ap (λ (xs : List CharRange). slice_get xs c.partition_point-before.result) same) ∙ sym c.at.ensures ∙ ap option_copied c.in-Some.is) there

pub returns-in-None : goal.returns-in-None
returns-in-None c =
    let apart : AreApart c.args.self.now = subst AreApart c.self.view_is c.self.invariant in
    let same : c.as_slice-ranges.result.now ≡ c.args.self.now = c.as_slice-ranges.ensures ∙ c.self.view_is in
    let split = subst (λ (xs : List CharRange). IsPartitionedBy (λ (r : CharRange). nat_lt r.high c.args.c) xs) (sym same) (parted c.args.c c.args.self.now apart) in
    let point = IsPartitionPoint-from_clause (λ (r : CharRange). nat_lt r.high c.args.c) _ _ c.partition_point-before.ensures.partitioned split (λ a r q k. search rules) in
    let there = subst (λ (xs : List CharRange). IsPartitionPoint (λ (r : CharRange). nat_lt r.high c.args.c ≡ true) (λ (r : CharRange). nat_lt r.high c.args.c ≡ false) xs c.partition_point-before.result) same point in
    holds_none c.args.c c.args.self.now c.partition_point-before.result (sym (ap (λ (xs : List CharRange). slice_get xs c.partition_point-before.result) same) ∙ sym c.at.ensures ∙ ap option_copied c.in-None.is) there
