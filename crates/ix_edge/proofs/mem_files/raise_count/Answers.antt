use Rattle.std.proofs.Common.{◌≡◌, ◌≤◌, ◌^◌, ◌<◌, Some, ap, sym, subst, ◌∙◌, position, is_some, unwrap_or, option_map, slice_index_or, refl, cond, arith}
use Rattle.std.proofs.Math.Seq.{map-set_same}
use Rattle.ix_edge.specs.Causes.{one_more}
use Rattle.ix_edge.specs.Counts.{count_in}
use Rattle.ix_edge.specs.Entries.{is_named, pair_of}
use Rattle.ix_edge.specs.declared.entry.Entry.{Entry}
use Rattle.ix_edge.proofs.Raised.{found_there, nowhere_found, count_written, missing_counted, raised_more, raised_own, with_faults}
use Rattle.ix_edge.proofs.mem_files.raise_count.Goals as goal

-- the place is the first with this name
at : (c : goal.After-index-entries-place-in-Some) → position (is_named c.args.name.now) c.args.entries.now ≡ Some c.in-Some.place
at c = sym c.place_of.ensures ∙ c.in-Some.is

-- the count is one more than the entry's
risen : (c : goal.After-index-entries-place-in-Some) → c.saturating_add.result ≡ one_more (slice_index_or c.args.entries.now c.in-Some.place c.index-entries-place-in-Some.result).faults
risen c =
    let one = found_there (is_named c.args.name.now) c.args.entries.now c.in-Some.place c.index-entries-place.result (at c) in
    let two = found_there (is_named c.args.name.now) c.args.entries.now c.in-Some.place c.index-entries-place-in-Some.result (at c) in
    let same : slice_index_or c.args.entries.now c.in-Some.place c.index-entries-place.result ≡ slice_index_or c.args.entries.now c.in-Some.place c.index-entries-place-in-Some.result = cc in
    c.saturating_add.ensures ∙ ap (λ (e : Entry). one_more e.faults) same

pub returns-in-Some-clause-same : goal.returns-in-Some-clause-same
returns-in-Some-clause-same c =
    map-set_same pair_of c.args.entries.now c.in-Some.place (with_faults (slice_index_or c.args.entries.now c.in-Some.place c.index-entries-place-in-Some.result) c.saturating_add.result) c.index-entries-place-in-Some.result refl

pub returns-in-Some-clause-counts : goal.returns-in-Some-clause-counts
returns-in-Some-clause-counts c =
    λ other. count_written c.args.entries.now c.args.missing.now c.args.name.now other c.in-Some.place c.saturating_add.result c.index-entries-place-in-Some.result (at c) (risen c)

pub returns-in-Some-clause-later : goal.returns-in-Some-clause-later
returns-in-Some-clause-later c =
    λ other.
    let found = found_there (is_named c.args.name.now) c.args.entries.now c.in-Some.place c.index-entries-place.result (at c) in
    let its : count_in c.args.entries.now c.args.missing.now c.args.name.now ≡ (slice_index_or c.args.entries.now c.in-Some.place c.index-entries-place.result).faults
    = ap (λ o. unwrap_or (option_map (λ (e : Entry). e.faults) o) c.args.missing.now) found in
    let small : count_in c.args.entries.now c.args.missing.now c.args.name.now < 2 ^ 64 = omega (arith, c.index-entries-place.element_fits.fits) in
    subst (λ n. count_in c.args.entries.now c.args.missing.now other ≤ n) (sym (returns-in-Some-clause-counts c other)) (raised_more c.args.entries.now c.args.missing.now c.args.name.now other small)

pub returns-in-Some-clause-rose : goal.returns-in-Some-clause-rose
returns-in-Some-clause-rose c =
    let own = returns-in-Some-clause-counts c c.args.name.now ∙ raised_own c.args.entries.now c.args.missing.now c.args.name.now in
    omega arith

pub returns-in-Some-clause-missing : goal.returns-in-Some-clause-missing
returns-in-Some-clause-missing c =
    let found = found_there (is_named c.args.name.now) c.args.entries.now c.in-Some.place c.index-entries-place.result (at c) in
    sym (ap (λ o. cond (is_some o) c.args.missing.now (one_more c.args.missing.now)) found)

pub returns-in-None-clause-counts : goal.returns-in-None-clause-counts
returns-in-None-clause-counts c =
    λ other. missing_counted c.args.entries.now c.args.missing.now c.saturating_add-in-None.result c.args.name.now other (nowhere_found (is_named c.args.name.now) c.args.entries.now (sym c.place_of.ensures ∙ c.in-None.is)) c.saturating_add-in-None.ensures

pub returns-in-None-clause-rose : goal.returns-in-None-clause-rose
returns-in-None-clause-rose c =
    let own = returns-in-None-clause-counts c c.args.name.now ∙ raised_own c.args.entries.now c.args.missing.now c.args.name.now in
    omega arith

pub returns-in-None-clause-missing : goal.returns-in-None-clause-missing
returns-in-None-clause-missing c =
    let none = nowhere_found (is_named c.args.name.now) c.args.entries.now (sym c.place_of.ensures ∙ c.in-None.is) in
    c.saturating_add-in-None.ensures ∙ sym (ap (λ o. cond (is_some o) c.args.missing.now (one_more c.args.missing.now)) none)
