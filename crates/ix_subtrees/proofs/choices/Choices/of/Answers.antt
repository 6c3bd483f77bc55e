use Rattle.std.proofs.Common.{rules}
use Rattle.std.specs.List.Sorted.{IsStrictlySortedBy}
use Rattle.std.proofs.lemmas.List.Filters.{dedup_is}
use Rattle.std.proofs.lemmas.List.Sorted.{Contains-permutation, IsPermutation-sym}
use Rattle.std.proofs.lemmas.List.Kept.{Contains-dedup, Contains-from_dedup, IsStrictlySortedBy-dedup}
use Rattle.ix_subtrees.specs.contracts.entry.EntryOrd.TheImpl.Laws as of_entries
use Rattle.ix_subtrees.specs.contracts.entry.EntryEq.TheImpl.Laws as same_entries
use Rattle.ix_subtrees.specs.Orders.{entry_cmp}
use Rattle.ix_subtrees.proofs.Orders.{same_entry, entries_in_order}
use Rattle.ix_subtrees.proofs.choices.Choices.of.Goals as goal

pub invariant_of-result : goal.invariant_of-result
invariant_of-result c = record {
  order = rw (dedup_is _ _ _ c.dedup.ensures.filtered) (IsStrictlySortedBy-dedup of_entries.total-law of_entries.matches_eq-law _ c.sort_unstable.ensures.sorted);
  same = (search rules);
}

pub returns-clause-same : goal.returns-clause-same
returns-clause-same c =
    let is = dedup_is _ _ _ c.dedup.ensures.filtered in
    let moved = c.sort_unstable.ensures.permutation in
    λ e. (
      λ h. Contains-permutation _ _ e (IsPermutation-sym _ _ moved) (Contains-from_dedup _ _ e (rw is at h)),
      λ h. rw is (Contains-dedup same_entries.laws-law same_entry _ e (Contains-permutation _ _ e moved h)),
    )

pub returns-clause-order : goal.returns-clause-order
returns-clause-order c =
    let sorted : IsStrictlySortedBy entry_cmp c.dedup.new.self.items =
    rw (dedup_is _ _ _ c.dedup.ensures.filtered) (IsStrictlySortedBy-dedup of_entries.total-law of_entries.matches_eq-law _ c.sort_unstable.ensures.sorted) in
    entries_in_order c.dedup.new.self.items sorted
