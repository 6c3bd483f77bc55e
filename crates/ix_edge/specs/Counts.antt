-- The counts of failed loads: one for each entry, and one for all names that no entry has.
use Rattle.std.specs.Prelude.{ℕ, Bool, List, find, is_some, not, ◌&&◌, ◌||◌, if◌then◌else◌, unwrap_or, option_map}
use Rattle.std.specs.Str.{bytes_eq}
use Rattle.ix_edge.specs.Causes.{one_more}
use Rattle.ix_edge.specs.Entries.{is_named}
use Rattle.ix_edge.specs.declared.entry.Entry.{Entry}

-- whether an entry has this name
abbrev pub has_name : List Entry → List ℕ → Bool
has_name es name = is_some (find (is_named name) es)

-- the count of a name: its entry's, and else the one of all missing names
abbrev pub count_in : List Entry → ℕ → List ℕ → ℕ
count_in es missing name = unwrap_or (option_map (λ e. e.faults) (find (is_named name) es)) missing

-- whether two names have one count: they are the same name, or both are missing
abbrev pub have_one_count : List Entry → List ℕ → List ℕ → Bool
have_one_count es a b = bytes_eq a b || (not (has_name es a) && not (has_name es b))

-- the count of the other name after the count that this name has rose by one
abbrev pub raised_count : List Entry → ℕ → List ℕ → List ℕ → ℕ
raised_count es missing name other =
    if have_one_count es name other then one_more (count_in es missing other) else count_in es missing other
