use Rattle.std.proofs.Common.{◌≡◌, ◌∙◌, unwrap_or, ap, arith, rules}
use Rattle.indexmap.specs.Entry.{map_with_value}
use Rattle.indexmap.specs.IndexMap.{get}
use Rattle.ix_cluster.specs.Lists.{same_cluster}
use Rattle.ix_cluster.proofs.ListLemmas.{KeepsLists-from_write, KeepsLists-entries, entry-list, IsPlaceFor-entry}
use Rattle.ix_cluster.proofs.lists.place_for.Goals as goal

pub returns-in_err-reserve-clause-kept : goal.returns-in_err-reserve-clause-kept
returns-in_err-reserve-clause-kept g c =
    let n = map_with_value c.in_ok-entry.entry c.reserve.new.self in
    let now : c.or_insert-list.result.now ≡ unwrap_or (get same_cluster c.args.map.now c.args.cluster) c.new.result = c.or_insert-list.ensures.value ∙ ap (λ o. unwrap_or o c.new.result) c.in_ok-entry.ensures.value in
    let same = entry-list c.args.map.now n c.args.cluster c.reserve.new.self c.new.result c.or_insert-list.result.now c.new.ensures.items now c.reserve.ensures.items in
    KeepsLists-entries c.args.map.now n _ (search rules) (KeepsLists-from_write c.args.map.now n c.args.cluster c.reserve.new.self (c.in_ok-entry.ensures.update.0 c.reserve.new.self).0 same)

pub returns-clause-kept : goal.returns-clause-kept
returns-clause-kept g c =
    let n = map_with_value c.in_ok-entry.entry c.reserve.new.self in
    let now : c.or_insert-list.result.now ≡ unwrap_or (get same_cluster c.args.map.now c.args.cluster) c.new.result = c.or_insert-list.ensures.value ∙ ap (λ o. unwrap_or o c.new.result) c.in_ok-entry.ensures.value in
    let same = entry-list c.args.map.now n c.args.cluster c.reserve.new.self c.new.result c.or_insert-list.result.now c.new.ensures.items now c.reserve.ensures.items in
    KeepsLists-entries c.args.map.now n _ (search rules) (KeepsLists-from_write c.args.map.now n c.args.cluster c.reserve.new.self (c.in_ok-entry.ensures.update.0 c.reserve.new.self).0 same)

pub returns-clause-place : goal.returns-clause-place
returns-clause-place g c =
    let entries = c.in_ok-entry.ensures.update.1 c.reserve.new.self in
    IsPlaceFor-entry c.args.map.now _ c.args.cluster c.reserve.new.self c.index-place.result (search (rules, entries)) (c.index-place.ensures ∙ c.in_ok-entry.ensures.index) (omega (arith, c.in_ok-reserve.ensures.ok))
