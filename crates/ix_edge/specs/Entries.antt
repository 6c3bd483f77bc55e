-- Entries in memory as what files tell.
use Rattle.std.specs.Prelude.{◌≡◌, ℕ, Bool, Some, All, true, not, ◌&&◌, List, [], ◌∷◌, map, find, option_map, unwrap_or, string_bytes}
use Rattle.std.specs.List.{list_any}
use Rattle.std.specs.Str.{bytes_eq}
use Rattle.ix_edge.specs.Told.{Told}
use Rattle.ix_edge.specs.declared.entry.Entry.{Entry}

-- the bytes of the entry's name
abbrev pub name_of : Entry → List ℕ
name_of e = string_bytes e.name

-- whether this is the entry's name
abbrev pub is_named : List ℕ → Entry → Bool
is_named name e = bytes_eq (name_of e) name

-- whether no two of the entries have one name
abbrev pub names_differ : List Entry → Bool
names_differ [] = true
names_differ (e ∷ es) = not (list_any (is_named (name_of e)) es) && names_differ es

-- each entry is the one that its name finds
abbrev pub FindsEach : List Entry → Type 0
FindsEach es = All (λ e. find (is_named (name_of e)) es ≡ Some e) es

-- the entry's name with its bytes
abbrev pub pair_of : Entry → List ℕ × List ℕ
pair_of e = (name_of e, e.bytes.items)

-- what files of these entries tell
abbrev pub told_by : Bool → List Entry → Told
told_by others_empty es = record { entries = map pair_of es; others_empty = others_empty }

-- the bytes of the entry of this name, and else none
abbrev pub held_by : List Entry → List ℕ → List ℕ
held_by es name = unwrap_or (option_map (λ e. e.bytes.items) (find (is_named name) es)) []
