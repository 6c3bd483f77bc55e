-- What is read in one step, and what is left.
use Rattle.std.proofs.Common.{◌≡◌, ◌+◌, ◌-◌, ◌<◌, ◌≤◌, refl, ap, sym, ◌∙◌, ℕ, zero, suc, Bool, List, [], ◌∷◌, ◌++◌, append_assoc, arith, length, drop, take, map, get_or, nat_lt, true, false, slice_index}
use Rattle.std.specs.Prelude.{codes, if◌then◌else◌}
use Rattle.std.specs.List.{flat_map, AllByRecursion}
use Rattle.std.proofs.lemmas.Bool.{ltb-false}
use Rattle.std.proofs.lemmas.List.{drop_more, at_drop_more}
use Rattle.ix_model.specs.declared.state.State.{State}
use Rattle.ix_model.specs.Documents.Xml.{content_bytes, value_bytes, state_bytes}
use Rattle.ix_marks.specs.declared.item.Item as item
use Rattle.ix_marks.specs.declared.item.Item.TheVariants as item_is
use Rattle.ix_marks.specs.MarkedLists.{MarkedLists}
use Rattle.ix_marks.specs.Meaning.{attribute_of, piece_of}
use Rattle.ix_marks.specs.Ranges.{range_of}
use Rattle.ix_serial.specs.declared.cursor.Place.TheVariants.{Item, Attribute, Run}
use Rattle.ix_serial.specs.declared.cursor.Cursor.{Cursor}
use Rattle.ix_serial.specs.Cursors.{rest, attr_at, name_of, items_from, attributes_from, place_rest, place_from, run_from}
use Rattle.ix_serial.specs.Units.{name_units, attribute_units, document_units}

-- ---- elements and ranges

-- what holds of each element holds of the one at a place
pub each_at : {X : Type 0} (P : X → Type 0) (xs : List X) (i : ℕ) (d : X) → i < length xs → AllByRecursion P xs → P (get_or xs i d)
each_at P [] i d l h = absurd (omega (arith, l))
each_at P (x ∷ xs) zero d l h = h.0
each_at P (x ∷ xs) (suc i) d l h = each_at P xs i d (omega (arith, l)) h.1

-- the first of a range, and the others
pub range_more : {X : Type 0} (xs : List X) (low high : ℕ) (d : X) → low < high → high ≤ length xs → range_of xs low high ≡ get_or xs low d ∷ range_of xs (low + 1) high
range_more xs low high d l h =
    let more : high - low ≡ suc (high - (low + 1)) = omega arith in
    ap (take (high - low)) (drop_more xs low d (omega arith)) ∙ ap (λ n. take n (get_or xs low d ∷ drop (low + 1) xs)) more

-- nothing is between the end of a range and what is behind it
pub range_none : {X : Type 0} (xs : List X) (low high : ℕ) → high ≤ low → range_of xs low high ≡ []
range_none xs low high h =
    let none : high - low ≡ 0 = omega arith in
    ap (λ n. take n (drop low xs)) none

module _ (names : List (List ℕ)) (m : MarkedLists) (state : State) (i : ℕ) (tag_open : Bool) where
  -- what is read from before a character of a run, or from behind its last
  pub run_rest : (at high : ℕ) → place_rest names m state i tag_open (run_from at high) ≡ map content_bytes (range_of m.chars at high) ++ items_from names m state tag_open i
  run_rest at high = by_order (nat_lt at high) refl
    where
      by_order : (b : Bool) → nat_lt at high ≡ b → place_rest names m state i tag_open (run_from at high) ≡ map content_bytes (range_of m.chars at high) ++ items_from names m state tag_open i
      by_order true e = ap (λ (b : Bool). place_rest names m state i tag_open (if b then Run at high else Item)) e
      by_order false e =
          ap (λ (b : Bool). place_rest names m state i tag_open (if b then Run at high else Item)) e
          ∙ ap (λ xs. map content_bytes xs ++ items_from names m state tag_open i) (sym (range_none m.chars at high (omega (arith, ltb-false at high e))))

  pub place_from_rest : (a b : ℕ) → place_rest names m state i tag_open (place_from a b) ≡ attributes_from names m a b ++ items_from names m state tag_open i
  place_from_rest a b = by_order (nat_lt a b) refl
    where
      by_order : (c : Bool) → nat_lt a b ≡ c → place_rest names m state i tag_open (place_from a b) ≡ attributes_from names m a b ++ items_from names m state tag_open i
      by_order true e = ap (λ (c : Bool). place_rest names m state i tag_open (if c then Attribute a b else Item)) e
      by_order false e =
          ap (λ (c : Bool). place_rest names m state i tag_open (if c then Attribute a b else Item)) e
          ∙ ap (λ xs. flat_map attribute_units (map (attribute_of names m.chars) xs) ++ items_from names m state tag_open i) (sym (range_none m.attrs a b (omega (arith, ltb-false a b e))))

  attribute_parts : (name val : List (List ℕ)) (more behind : List (List ℕ)) →
      ((codes " " ∷ (name ++ (codes "=\"" ∷ (val ++ (codes "\"" ∷ []))))) ++ more) ++ behind ≡ codes " " ∷ (name ++ (codes "=\"" ∷ (val ++ (codes "\"" ∷ (more ++ behind)))))
  attribute_parts name val more behind = simp append_assoc

  -- the first of the attributes, and the others
  pub attribute_rest : (a b : ℕ) → a < b → b ≤ length m.attrs →
      attributes_from names m a b ++ items_from names m state tag_open i
      ≡ codes " " ∷ (name_units (name_of names m (attr_at names m a)) ++ (codes "=\"" ∷ (map value_bytes (range_of m.chars (attr_at names m a).low (attr_at names m a).high) ++ (codes "\"" ∷ (attributes_from names m (a + 1) b ++ items_from names m state tag_open i)))))
  attribute_rest a b l h =
      ap (λ xs. flat_map attribute_units (map (attribute_of names m.chars) xs) ++ items_from names m state tag_open i) (range_more m.attrs a b (record { name = 0; low = 0; high = 0 }) l h)
      ∙ attribute_parts (name_units (name_of names m (attr_at names m a))) (map value_bytes (range_of m.chars (attr_at names m a).low (attr_at names m a).high)) (attributes_from names m (a + 1) b) (items_from names m state tag_open i)

  -- the first character of a run, and the others
  pub run_more : (low high : ℕ) → low < high → high ≤ length m.chars →
      map content_bytes (range_of m.chars low high) ++ items_from names m state tag_open i ≡ content_bytes (slice_index m.chars low) ∷ place_rest names m state i tag_open (run_from (low + 1) high)
  run_more low high l h =
      ap (λ xs. map content_bytes xs ++ items_from names m state tag_open i) (range_more m.chars low high 0 l h)
      ∙ ap (λ xs. content_bytes (get_or m.chars low 0) ∷ xs) (sym (run_rest (low + 1) high))

module _ (names : List (List ℕ)) (m : MarkedLists) where
  -- an item, and the others
  pub item_rest : (state : State) (tag_open : Bool) (i : ℕ) (x : item.Item) → i < length m.items →
      items_from names m state tag_open i ≡ document_units (state_bytes state) tag_open (piece_of names m.attrs m.chars (get_or m.items i x) ∷ map (piece_of names m.attrs m.chars) (drop (i + 1) m.items))
  item_rest state tag_open i x l = at_drop_more (λ (xs : List item.Item). document_units (state_bytes state) tag_open (map (piece_of names m.attrs m.chars) xs)) m.items i x l

  -- a run begins
  pub run_begins : (old new : Cursor) (unit : List ℕ) (x : item.Item) (low high : ℕ) → old.item < length m.items → get_or m.items old.item x ≡ item_is.Chars low high → low < high → high ≤ length m.chars →
      old.place ≡ Item → new.place ≡ (if old.tag_open then Run low high else run_from (low + 1) high) → new.tag_open ≡ false → new.item ≡ old.item + 1 → new.state ≡ old.state →
      unit ≡ (if old.tag_open then codes ">" else content_bytes (slice_index m.chars low)) → rest names m old ≡ unit ∷ rest names m new
  run_begins old new unit x low high l is a b old_place new_place closed item same unit_is =
      let now : rest names m new ≡ place_rest names m old.state (old.item + 1) false new.place = cc (closed, item, same) in
      ap (place_rest names m old.state old.item old.tag_open) old_place
      ∙ item_rest old.state old.tag_open old.item x l
      ∙ ap (λ y. document_units (state_bytes old.state) old.tag_open (piece_of names m.attrs m.chars y ∷ map (piece_of names m.attrs m.chars) (drop (old.item + 1) m.items))) is
      ∙ by_tag old.tag_open new_place unit_is
      ∙ ap (λ xs. unit ∷ xs) (sym now)
    where
      by_tag : (b : Bool) → new.place ≡ (if b then Run low high else run_from (low + 1) high) → unit ≡ (if b then codes ">" else content_bytes (slice_index m.chars low)) →
          document_units (state_bytes old.state) b (piece_of names m.attrs m.chars (item_is.Chars low high) ∷ map (piece_of names m.attrs m.chars) (drop (old.item + 1) m.items))
          ≡ unit ∷ place_rest names m old.state (old.item + 1) false new.place
      by_tag true e u = cc (e, u)
      by_tag false e u = run_more names m old.state (old.item + 1) false low high a b ∙ cc (e, u)
