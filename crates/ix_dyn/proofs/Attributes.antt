-- Attributes with the name `xmlns`, among those of one element or of all.
use Rattle.std.proofs.Common.{◌≡◌, refl, ap, ap₂, sym, subst, ◌∙◌, ℕ, zero, suc, Bool, true, false, List, [], ◌∷◌, map, Some, slice_get}
use Rattle.std.specs.Prelude.{◌||◌, codes}
use Rattle.std.specs.Bool.{MatchBool}
use Rattle.std.specs.List.{flat_map, list_any}
use Rattle.std.specs.Cmp.Lexicographic.{told_text}
use Rattle.ix_model.specs.Documents.Dyn.{HasXmlns}
use Rattle.ix_marks.specs.declared.item.Item.{Item}
use Rattle.ix_marks.specs.declared.item.Item.TheVariants.{Begin, Close, Chars}
use Rattle.ix_marks.specs.declared.item.Attr.{Attr}
use Rattle.ix_marks.specs.Meaning.{attribute_of, piece_of}
use Rattle.ix_marks.specs.Ranges.{range_of}
use Rattle.ix_marks.specs.Telling.{names_of, piece_attributes}
use Rattle.ix_dyn.specs.Items.{is_xmlns, is_xmlns_attribute, has_xmlns}

-- some of them has P
abbrev pub HasOne : {X : Type 0} → (X → Type 0) → List X → Type 0
HasOne {X} P xs = (k : ℕ) × (x : X) × (slice_get xs k ≡ Some x) × P x

-- a test that tells whether P holds of one tells whether some of a list has it
pub any_told : {X : Type 0} (test : X → Bool) (P : X → Type 0) → ((x : X) → MatchBool (test x) (P x) (¬ (P x))) → (xs : List X) →
    MatchBool (list_any test xs) (HasOne P xs) (¬ (HasOne P xs))
any_told test P told [] = λ h. absurd (cc h.2)
any_told {X} test P told (x ∷ xs) = by (test x) (told x) (list_any test xs) (any_told test P told xs)
  where
    by : (b : Bool) → MatchBool b (P x) (¬ (P x)) → (c : Bool) → MatchBool c (HasOne P xs) (¬ (HasOne P xs)) → MatchBool (b || c) (HasOne P (x ∷ xs)) (¬ (HasOne P (x ∷ xs)))
    by true p c h = (0, x, refl, p)
    by false n true (k, y, e, p) = (suc k, y, e, p)
    by false n false h = none
      where
        none : ¬ (HasOne P (x ∷ xs))
        none (zero, y, e, p) = n (subst P (sym {a = x} {b = y} (cc e)) p)
        none (suc k, y, e, p) = h (k, y, e, p)

-- whether the names have `xmlns`
pub xmlns_told : (names : List (List ℕ)) → MatchBool (list_any is_xmlns names) (HasXmlns names) (¬ (HasXmlns names))
xmlns_told names = by (list_any is_xmlns names) (any_told is_xmlns (λ name. name ≡ codes "xmlns") (λ name. told_text name (codes "xmlns") (is_xmlns name) refl) names)
  where
    by : (b : Bool) → MatchBool b (HasOne (λ name. name ≡ codes "xmlns") names) (¬ (HasOne (λ name. name ≡ codes "xmlns") names)) → MatchBool b (HasXmlns names) (¬ (HasXmlns names))
    by true (k, name, e, p) = (k, e ∙ ap Some p)
    by false h = λ g. h (g.0, codes "xmlns", g.1, refl)

module _ (names : List (List ℕ)) (attrs : List Attr) (chars : List ℕ) where
  attributes_told : (xs : List Attr) → list_any (is_xmlns_attribute names) xs ≡ list_any is_xmlns (names_of (map (attribute_of names chars) xs))
  attributes_told [] = refl
  attributes_told (x ∷ xs) = ap (λ b. is_xmlns_attribute names x || b) (attributes_told xs)

  -- the items tell whether some element has an attribute `xmlns`
  pub items_told : (items : List Item) → list_any (has_xmlns names attrs) items ≡ list_any (list_any is_xmlns) (flat_map piece_attributes (map (piece_of names attrs chars) items))
  items_told [] = refl
  items_told (Begin name low high ∷ items) = ap₂ (λ b c. b || c) (attributes_told (range_of attrs low high)) (items_told items)
  items_told (Close name ∷ items) = items_told items
  items_told (Chars low high ∷ items) = items_told items
