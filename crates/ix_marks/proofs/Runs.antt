-- The characters behind the items become an item.
use Rattle.std.proofs.Common.{◌≡◌, ◌≤◌, ◌<◌, refl, ap, sym, subst, ◌∙◌, ℕ, Bool, true, false, cond, ltb, List, [], ◌∷◌, ◌++◌, length, drop, append-nil, arith, length-drop}
use Rattle.std.proofs.lemmas.Bool.{lt-ltb, le-ltb, ltb-true, cond-true, cond-false}
use Rattle.std.proofs.lemmas.List.Sums.{sum_by-append}
use Rattle.std.specs.List.{sum_by}
use Rattle.ix_marks.specs.declared.item.Item.{Item}
use Rattle.ix_marks.specs.declared.item.Item.TheVariants.{Chars}
use Rattle.ix_marks.specs.declared.item.Attr.{Attr}
use Rattle.ix_marks.specs.declared.building.Open.{Open}
use Rattle.ix_model.proofs.AllOf.{all_append}
use Rattle.ix_marks.specs.Building.{AreOpen, with_chars}
use Rattle.ix_marks.specs.Counted.{attribute_count, run_length}
use Rattle.ix_marks.specs.InRange.{AreItemsIn, IsItemIn}
use Rattle.ix_marks.specs.Levels.{Level, flush}
use Rattle.ix_marks.specs.Pieces.{Attribute, Piece, characters}
use Rattle.ix_marks.specs.Ranges.{range_of}
use Rattle.ix_marks.proofs.Ranges.{range_rest}
use Rattle.ix_marks.proofs.Growing.{open_appends}

chars_none : (items : List Item) (low high : ℕ) → high ≤ low → with_chars items low high ≡ items
chars_none items low high h = cond-false (ltb low high) (items ++ Chars low high ∷ []) items (le-ltb low high h)

chars_some : (items : List Item) (low high : ℕ) → low < high → with_chars items low high ≡ items ++ Chars low high ∷ []
chars_some items low high h = cond-true (ltb low high) (items ++ Chars low high ∷ []) items (lt-ltb low high h)

-- a run has no attributes
pub chars_counted : (items : List Item) (low high : ℕ) → sum_by attribute_count (with_chars items low high) ≡ sum_by attribute_count items
chars_counted items low high = by (ltb low high)
  where
    by : (b : Bool) → sum_by attribute_count (cond b (items ++ Chars low high ∷ []) items) ≡ sum_by attribute_count items
    by true = omega (arith, sum_by-append attribute_count items (Chars low high ∷ []))
    by false = refl

-- and no more characters than there are before its end
pub chars_fit : (items : List Item) (low high : ℕ) → low ≤ high → sum_by run_length items ≤ low → sum_by run_length (with_chars items low high) ≤ high
chars_fit items low high l h = by (ltb low high)
  where
    by : (b : Bool) → sum_by run_length (cond b (items ++ Chars low high ∷ []) items) ≤ high
    by true = omega (arith, l, h, sum_by-append run_length items (Chars low high ∷ []))
    by false = omega (arith, l, h)

module _ (names : List (List ℕ)) (attrs : List Attr) (chars : List ℕ) where
  -- the characters behind the items become an item
  pub open_chars : (ls : List Level) (ps : List Piece) (cs : List ℕ) (ats : List Attribute) (opens : List Open) (items : List Item) (waiting : List Attr) (low : ℕ) →
      low ≤ length chars → drop low chars ≡ cs → AreOpen names attrs chars ls ps ats opens items waiting →
      AreOpen names attrs chars ls (flush ps cs) ats opens (with_chars items low (length chars)) waiting
  open_chars ls ps [] ats opens items waiting low l e h =
      subst (λ (zs : List Item). AreOpen names attrs chars ls ps ats opens zs waiting) (sym (chars_none items low (length chars) (omega (arith, length-drop low chars, ap length e)))) h
  open_chars ls ps (c ∷ cs) ats opens items waiting low l e h =
      subst (λ (zs : List Item). AreOpen names attrs chars ls (ps ++ characters (c ∷ cs) ∷ []) ats opens zs waiting) (sym (chars_some items low (length chars) (omega (arith, length-drop low chars, ap length e))))
      (subst (λ (v : List ℕ). AreOpen names attrs chars ls (ps ++ characters v ∷ []) ats opens (items ++ Chars low (length chars) ∷ []) waiting) (range_rest chars low (length chars) refl ∙ e)
      (subst (λ (zs : List Attr). AreOpen names attrs chars ls (ps ++ characters (range_of chars low (length chars)) ∷ []) ats opens (items ++ Chars low (length chars) ∷ []) zs) (append-nil waiting)
      (subst (λ (zs : List Attribute). AreOpen names attrs chars ls (ps ++ characters (range_of chars low (length chars)) ∷ []) zs opens (items ++ Chars low (length chars) ∷ []) (waiting ++ [])) (append-nil ats)
      (open_appends names attrs chars (Chars low (length chars) ∷ []) [] ls ps ats opens items waiting h))))

  -- which is there
  pub chars_in : (items : List Item) (low : ℕ) → AreItemsIn names attrs chars items → AreItemsIn names attrs chars (with_chars items low (length chars))
  chars_in items low h = by (ltb low (length chars)) refl
    where
      by : (b : Bool) → ltb low (length chars) ≡ b → AreItemsIn names attrs chars (cond b (items ++ Chars low (length chars) ∷ []) items)
      by true e = all_append (IsItemIn names attrs chars) items (Chars low (length chars) ∷ []) h ((ltb-true low (length chars) e, omega arith), tt)
      by false e = h
