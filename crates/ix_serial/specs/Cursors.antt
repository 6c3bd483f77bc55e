-- What of a document is still to be read, by how far it is read.
-- Source: this project's own.
use Rattle.std.specs.Prelude.{ℕ, ◌+◌, ◌<◌, ◌≤◌, Bool, false, List, [], ◌∷◌, ◌++◌, codes, map, drop, length, get_or, nat_lt, if◌then◌else◌}
use Rattle.std.specs.List.{flat_map}
use Rattle.ix_model.specs.declared.state.State.{State}
use Rattle.ix_model.specs.declared.state.State.TheVariants.{Single}
use Rattle.ix_model.specs.Documents.Xml.{content_bytes, value_bytes, state_bytes}
use Rattle.ix_marks.specs.declared.item.Attr.{Attr}
use Rattle.ix_marks.specs.MarkedLists.{MarkedLists}
use Rattle.ix_marks.specs.Meaning.{attribute_of, piece_of}
use Rattle.ix_marks.specs.Ranges.{range_of}
use Rattle.ix_serial.specs.declared.cursor.Place.{Place}
use Rattle.ix_serial.specs.declared.cursor.Place.TheVariants.{Item, StartName, Attribute, AttributeName, Value, EndName, Run, End}
use Rattle.ix_serial.specs.declared.cursor.Cursor.{Cursor}
use Rattle.ix_serial.specs.Units.{name_units, attribute_units, document_units}

-- nothing is read of a document with this state
abbrev pub beginning : State → Cursor
beginning state = record { item = 0; tag_open = false; state = state; place = Item }

-- before an attribute of an element, or behind its last
abbrev pub place_from : ℕ → ℕ → Place
place_from attr high = if nat_lt attr high then Attribute attr high else Item

-- before a character of a run, or behind its last
abbrev pub run_from : ℕ → ℕ → Place
run_from at high = if nat_lt at high then Run at high else Item

module _ (names : List (List ℕ)) (m : MarkedLists) where
  -- the attribute with this number
  abbrev pub attr_at : ℕ → Attr
  attr_at a = get_or m.attrs a (record { name = 0; low = 0; high = 0 })

  abbrev pub name_of : Attr → List ℕ
  name_of attr = get_or names attr.name []

  -- the items from number i on, with a start tag open or not
  abbrev pub items_from : State → Bool → ℕ → List (List ℕ)
  items_from state tag_open i = document_units (state_bytes state) tag_open (map (piece_of names m.attrs m.chars) (drop i m.items))

  -- the attributes from number a on and before number b
  abbrev pub attributes_from : ℕ → ℕ → List (List ℕ)
  attributes_from a b = flat_map attribute_units (map (attribute_of names m.chars) (range_of m.attrs a b))

  -- what is read from a place on, where this is read behind it
  abbrev pub place_rest : State → ℕ → Bool → Place → List (List ℕ)
  place_rest state i tag_open Item = items_from state tag_open i
  place_rest state i tag_open (StartName name at low high) = name_units (drop at (get_or names name [])) ++ (state_bytes state ∷ (attributes_from low high ++ items_from Single tag_open i))
  place_rest state i tag_open (Attribute attr high) = attributes_from attr high ++ items_from state tag_open i
  place_rest state i tag_open (AttributeName attr high at) =
      name_units (drop at (name_of (attr_at attr))) ++ (codes "=\"" ∷ (map value_bytes (range_of m.chars (attr_at attr).low (attr_at attr).high) ++ (codes "\"" ∷ (attributes_from (attr + 1) high ++ items_from state tag_open i))))
  place_rest state i tag_open (Value attr high at) =
      map value_bytes (range_of m.chars at (attr_at attr).high) ++ (codes "\"" ∷ (attributes_from (attr + 1) high ++ items_from state tag_open i))
  place_rest state i tag_open (EndName name at) = name_units (drop at (get_or names name [])) ++ (codes ">" ∷ items_from state tag_open i)
  place_rest state i tag_open (Run at high) = map content_bytes (range_of m.chars at high) ++ items_from state tag_open i
  place_rest state i tag_open End = []

  -- what is read from here on
  abbrev pub rest : Cursor → List (List ℕ)
  rest r = place_rest r.state r.item r.tag_open r.place

  -- what a place names is there
  abbrev pub IsPlaceWithin : Place → Type 0
  IsPlaceWithin Item = Unit {0}
  IsPlaceWithin (StartName name at low high) = (name < length names) × (low ≤ high) × (high ≤ length m.attrs)
  IsPlaceWithin (Attribute attr high) = (attr < high) × (high ≤ length m.attrs)
  IsPlaceWithin (AttributeName attr high at) = (attr < high) × (high ≤ length m.attrs)
  IsPlaceWithin (Value attr high at) = (attr < high) × (high ≤ length m.attrs)
  IsPlaceWithin (EndName name at) = name < length names
  IsPlaceWithin (Run at high) = (at < high) × (high ≤ length m.chars)
  IsPlaceWithin End = Unit {0}

  -- it is read within the marked tree
  abbrev pub IsWithin : Cursor → Type 0
  IsWithin r = (r.item ≤ length m.items) × IsPlaceWithin r.place
