-- The names and characters that come with the items are those of the pieces, and the names are there.
use Rattle.std.proofs.Common.{◌≡◌, ◌<◌, refl, ap, ap₂, ◌∙◌, sym, ℕ, List, [], ◌∷◌, ◌++◌, length, map, get_or}
use Rattle.std.specs.List.{flat_map}
use Rattle.std.proofs.lemmas.List.{map-append}
use Rattle.ix_model.proofs.AllOf.{all_append}
use Rattle.ix_marks.specs.declared.item.Item.{Item}
use Rattle.ix_marks.specs.declared.item.Item.TheVariants.{Begin, Close, Chars}
use Rattle.ix_marks.specs.declared.item.Attr.{Attr}
use Rattle.ix_marks.specs.InRange.{AreAttrsIn, AreItemsIn}
use Rattle.ix_marks.specs.Meaning.{attribute_of, piece_of}
use Rattle.ix_marks.specs.Ranges.{range_of}
use Rattle.ix_marks.specs.Repeats.{numbers}
use Rattle.ix_marks.specs.Telling.{names_of, values_of, piece_names, piece_characters}
use Rattle.ix_marks.proofs.RepeatInRange.{AreNumbers, range_numbers_in}
use Rattle.ix_dyn.specs.Items.{item_numbers, item_characters, value_of}

module _ (names : List (List ℕ)) where
  abbrev pub named : ℕ → List ℕ
  named n = get_or names n []

  module _ (attrs : List Attr) (chars : List ℕ) where
    attribute_names_told : (xs : List Attr) → names_of (map (attribute_of names chars) xs) ≡ map named (numbers xs)
    attribute_names_told [] = refl
    attribute_names_told (x ∷ xs) = ap (λ z. named x.name ∷ z) (attribute_names_told xs)

    pub names_told : (items : List Item) → flat_map piece_names (map (piece_of names attrs chars) items) ≡ map named (flat_map (item_numbers attrs) items)
    names_told [] = refl
    names_told (Begin name low high ∷ items) =
        ap (λ z. named name ∷ z) (ap₂ (λ xs ys. xs ++ ys) (attribute_names_told (range_of attrs low high)) (names_told items) ∙ sym (map-append named (numbers (range_of attrs low high)) (flat_map (item_numbers attrs) items)))
    names_told (Close name ∷ items) = names_told items
    names_told (Chars low high ∷ items) = names_told items

    values_told : (xs : List Attr) → values_of (map (attribute_of names chars) xs) ≡ flat_map (value_of chars) xs
    values_told [] = refl
    values_told (x ∷ xs) = ap (λ z. value_of chars x ++ z) (values_told xs)

    pub characters_told : (items : List Item) → flat_map piece_characters (map (piece_of names attrs chars) items) ≡ flat_map (item_characters attrs chars) items
    characters_told [] = refl
    characters_told (Begin name low high ∷ items) = ap₂ (λ xs ys. xs ++ ys) (values_told (range_of attrs low high)) (characters_told items)
    characters_told (Close name ∷ items) = characters_told items
    characters_told (Chars low high ∷ items) = ap (λ z. range_of chars low high ++ z) (characters_told items)

    -- each name is there
    pub numbers_in : AreAttrsIn names chars attrs → (items : List Item) → AreItemsIn names attrs chars items → AreNumbers names (flat_map (item_numbers attrs) items)
    numbers_in k [] h = tt
    numbers_in k (Begin name low high ∷ items) h =
        (h.0.0, all_append (λ n. n < length names) (numbers (range_of attrs low high)) (flat_map (item_numbers attrs) items) (range_numbers_in names chars attrs low high k) (numbers_in k items h.1))
    numbers_in k (Close name ∷ items) h = numbers_in k items h.1
    numbers_in k (Chars low high ∷ items) h = numbers_in k items h.1
