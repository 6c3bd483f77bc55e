-- What a write of one entry's count does to the counts of all names.
use Rattle.std.proofs.Common.{◌≡◌, ◌∙◌, ap, refl, sym, subst, arith, ℕ, Bool, true, false, cond, not, ◌<◌, ◌≤◌, ◌^◌, ◌||◌, ◌&&◌, nat_lt, get_or, length, List, Option, Some, None, is_some, option_map, unwrap_or, find, position, slice_get}
use Rattle.std.proofs.Math.ListN.{set}
use Rattle.std.specs.List.{position_or_len}
use Rattle.std.specs.Str.{bytes_eq}
use Rattle.std.proofs.lemmas.Bool.Decides.{nat_tests}
use Rattle.std.proofs.lemmas.List.Folds.{find_at, find-set, find_past}
use Rattle.std.proofs.lemmas.List.Quantifiers.{position-Some}
use Rattle.std.proofs.lemmas.Option.{slice_get-get_or, slice_get_past}
use Rattle.std.proofs.lemmas.Slice.Eq.{bytes_eq-Decides}
use Rattle.ix_edge.specs.Causes.{one_more}
use Rattle.ix_edge.specs.Counts.{has_name, count_in, have_one_count, raised_count}
use Rattle.ix_edge.specs.Entries.{name_of, is_named}
use Rattle.ix_edge.specs.declared.entry.Entry.{Entry}

place_is_first : (p : Entry → Bool) (es : List Entry) (i : ℕ) → position p es ≡ Some i → i ≡ position_or_len p es
place_is_first p es i = by (nat_lt (position_or_len p es) (length es))
  where
    by : (b : Bool) → cond b (Some (position_or_len p es)) None ≡ Some i → i ≡ position_or_len p es
    by true e = cc
    by false e = cc

-- the entry at the first place is the one that is found
pub found_there : (p : Entry → Bool) (es : List Entry) (i : ℕ) (d : Entry) → position p es ≡ Some i → find p es ≡ Some (get_or es i d)
found_there p es i d e =
    let inside = (position-Some p es i d e).0 in
    find_at p es ∙ (ap (slice_get es) (sym (place_is_first p es i e)) ∙ slice_get-get_or es i d inside)

pub nowhere_found : (p : Entry → Bool) (es : List Entry) → position p es ≡ None → find p es ≡ None
nowhere_found p es e = find_at p es ∙ slice_get_past es (position_or_len p es) (by (nat_lt (position_or_len p es) (length es)) refl e)
  where
    by : (b : Bool) → nat_lt (position_or_len p es) (length es) ≡ b → cond b (Some (position_or_len p es)) None ≡ None → length es ≤ position_or_len p es
    by true t e = absurd cc
    by false t e = grind (arith, nat_tests)

-- the entry with another count
abbrev pub with_faults : Entry → ℕ → Entry
with_faults e n = record { name = e.name; bytes = e.bytes; faults = n }

pub bytes_eq_same : (a : List ℕ) → bytes_eq a a ≡ true
bytes_eq_same a = (bytes_eq-Decides a a).1 refl

-- the count of a name for which this entry, or none, was found
abbrev count_found : Option Entry → ℕ → ℕ
count_found o missing = unwrap_or (option_map (λ e. e.faults) o) missing

-- `raised_count` by what it looks at: whether the names are one, whether the raised one is there, and the other's entry
abbrev raised_among : Bool → Bool → Option Entry → ℕ → ℕ
raised_among same named o missing = cond (same || (not named && not (is_some o))) (one_more (count_found o missing)) (count_found o missing)

-- an entry's own count rises
own_count_written : (es : List Entry) (missing : ℕ) (name : List ℕ) (i n : ℕ) (d : Entry) →
    position (is_named name) es ≡ Some i → n ≡ one_more (get_or es i d).faults →
    count_in (set es i (with_faults (get_or es i d) n)) missing name ≡ one_more (count_in es missing name)
own_count_written es missing name i n d at risen =
    let its = position-Some (is_named name) es i d at in
    let now : find (is_named name) (set es i (with_faults (get_or es i d) n)) ≡ Some (with_faults (get_or es i d) n)
    = find-set (is_named name) es i (with_faults (get_or es i d) n) (place_is_first (is_named name) es i at) its.0 its.1 in
    ap (λ o. count_found o missing) now ∙ (risen ∙ sym (ap (λ o. one_more (count_found o missing)) (found_there (is_named name) es i d at)))

-- the count of an entry of another name stays
other_count_written : (es : List Entry) (missing : ℕ) (name other : List ℕ) (i n : ℕ) (d : Entry) →
    is_named name (get_or es i d) ≡ true → bytes_eq name other ≡ false →
    count_in (set es i (with_faults (get_or es i d) n)) missing other ≡ count_in es missing other
other_count_written es missing name other i n d named differ =
    let its : name_of (get_or es i d) ≡ name = (bytes_eq-Decides (name_of (get_or es i d)) name).0 named in
    let fails : is_named other (get_or es i d) ≡ false = ap (λ a. bytes_eq a other) its ∙ differ in
    ap (λ o. count_found o missing) (find_past (is_named other) es i (with_faults (get_or es i d) n) d fails fails)

-- a write of the count of the entry that has this name
pub count_written : (es : List Entry) (missing : ℕ) (name other : List ℕ) (i n : ℕ) (d : Entry) →
    position (is_named name) es ≡ Some i → n ≡ one_more (get_or es i d).faults →
    count_in (set es i (with_faults (get_or es i d) n)) missing other ≡ raised_count es missing name other
count_written es missing name other i n d at risen = by (bytes_eq name other) refl
  where
    raised_is : (b : Bool) → bytes_eq name other ≡ b → raised_count es missing name other ≡ raised_among b true (find (is_named other) es) missing
    raised_is b t =
        let has : has_name es name ≡ true = ap is_some (found_there (is_named name) es i d at) in
        ap (λ same. raised_among same (has_name es name) (find (is_named other) es) missing) t
        ∙ ap (λ named. raised_among b named (find (is_named other) es) missing) has

    by : (b : Bool) → bytes_eq name other ≡ b → count_in (set es i (with_faults (get_or es i d) n)) missing other ≡ raised_count es missing name other
    by true t =
        let equal : name ≡ other = (bytes_eq-Decides name other).0 t in
        let own : count_in (set es i (with_faults (get_or es i d) n)) missing other ≡ one_more (count_in es missing other)
        = subst (λ a. count_in (set es i (with_faults (get_or es i d) n)) missing a ≡ one_more (count_in es missing a)) equal (own_count_written es missing name i n d at risen) in
        own ∙ sym (raised_is true t)
    by false t =
        other_count_written es missing name other i n d (position-Some (is_named name) es i d at).1 t ∙ sym (raised_is false t)

-- the count of missing names rises where this name is missing
pub missing_counted : (es : List Entry) (missing n : ℕ) (name other : List ℕ) →
    find (is_named name) es ≡ None → n ≡ one_more missing → count_in es n other ≡ raised_count es missing name other
missing_counted es missing n name other none risen =
    by (find (is_named other) es) (bytes_eq name other) (λ t. subst (λ a. find (is_named a) es ≡ None) ((bytes_eq-Decides name other).0 t) none)
    ∙ sym (ap (λ named. raised_among (bytes_eq name other) named (find (is_named other) es) missing) (ap is_some none))
  where
    by : (o : Option Entry) (b : Bool) → (b ≡ true → o ≡ None) → count_found o n ≡ raised_among b false o missing
    by None true h = risen
    by None false h = risen
    by (Some e) true h = let k : Some e ≡ None = h refl in absurd cc
    by (Some e) false h = refl

-- names that have one count
one_count : (es : List Entry) (missing : ℕ) (name other : List ℕ) → have_one_count es name other ≡ true → count_in es missing other ≡ count_in es missing name
one_count es missing name other shared = by (bytes_eq name other) (find (is_named name) es) (find (is_named other) es) shared (λ t. ap (λ a. find (is_named a) es) ((bytes_eq-Decides name other).0 t))
  where
    by : (b : Bool) (o p : Option Entry) → (b || (not (is_some o) && not (is_some p))) ≡ true → (b ≡ true → o ≡ p) → count_found p missing ≡ count_found o missing
    by true o p s same = ap (λ q. count_found q missing) (sym (same refl))
    by false None None s same = refl
    by false None (Some e) s same = absurd cc
    by false (Some e) p s same = absurd cc

-- a raised count is no less
pub raised_more : (es : List Entry) (missing : ℕ) (name other : List ℕ) → count_in es missing name < 2 ^ 64 →
    count_in es missing other ≤ raised_count es missing name other
raised_more es missing name other small = by (have_one_count es name other) refl
  where
    by : (b : Bool) → have_one_count es name other ≡ b → count_in es missing other ≤ cond b (one_more (count_in es missing other)) (count_in es missing other)
    by true shared = let e : count_in es missing other ≡ count_in es missing name = one_count es missing name other shared in omega arith
    by false apart = omega arith

-- the count of the name itself rose
pub raised_own : (es : List Entry) (missing : ℕ) (name : List ℕ) → raised_count es missing name name ≡ one_more (count_in es missing name)
raised_own es missing name = ap (λ same. raised_among same (has_name es name) (find (is_named name) es) missing) (bytes_eq_same name)
