-- Sums of what counts at the top.
use Rattle.std.proofs.Common.{◌≡◌, ◌≤◌, ◌<◌, ◌+◌, ◌-◌, ap, refl, ℕ, zero, suc, List, [], ◌∷◌, length, drop, get_or, map, arith, length-drop}
use Rattle.std.specs.List.{sum_by}
use Rattle.std.proofs.lemmas.List.{at_drop_more, length-take-le}
use Rattle.std.proofs.lemmas.List.Sums.{sum_by-cons}
use Rattle.ix_marks.specs.declared.item.Item.{Item}
use Rattle.ix_marks.specs.declared.item.Item.TheVariants.{Begin, Close, Chars}
use Rattle.ix_marks.specs.declared.item.Attr.{Attr}
use Rattle.ix_marks.specs.Counted.{run_length}
use Rattle.ix_marks.specs.InRange.{AreItemsIn}
use Rattle.ix_marks.specs.Meaning.{piece_of}
use Rattle.ix_marks.specs.Ranges.{range_of}
use Rattle.ix_marks.specs.Telling.{elements_at, characters_at}
use Rattle.ix_dyn.specs.Top.{begin_count, at_depth, depth_behind, sum_at_top}

-- what counts is no more than there is
at_depth_small : (depth n : ℕ) → at_depth depth n ≤ n
at_depth_small zero n = omega arith
at_depth_small (suc depth) n = omega arith

-- the sum at the top is no more than the sum of all
pub top_small : (count : Item → ℕ) (depth : ℕ) (items : List Item) → sum_at_top count depth items ≤ sum_by count items
top_small count depth [] = omega arith
top_small count depth (item ∷ items) = omega (arith, at_depth_small depth (count item), top_small count (depth_behind depth item) items, sum_by-cons count item items)

-- what counts at one item is no more than the sum from there on
pub one_small : (count : Item → ℕ) (depth : ℕ) (items : List Item) (i : ℕ) (x : Item) → i < length items → at_depth depth (count (get_or items i x)) ≤ sum_at_top count depth (drop i items)
one_small count depth items i x l = omega (arith, at_drop_more (sum_at_top count depth) items i x l)

module _ (names : List (List ℕ)) (attrs : List Attr) (chars : List ℕ) where
  -- the elements that stand in no other are those of the pieces
  pub elements_told : (depth : ℕ) (items : List Item) → elements_at depth (map (piece_of names attrs chars) items) ≡ sum_at_top begin_count depth items
  elements_told depth [] = refl
  elements_told zero (Begin name low high ∷ items) = ap (λ n. 1 + n) (elements_told 1 items)
  elements_told (suc depth) (Begin name low high ∷ items) =
      omega (arith, elements_told (suc (suc depth)) items, ap (λ d. sum_at_top begin_count d items) (deeper depth))
    where
      deeper : (d : ℕ) → suc d + 1 ≡ suc (suc d)
      deeper d = omega arith
  elements_told zero (Close name ∷ items) = omega (arith, elements_told zero items)
  elements_told (suc depth) (Close name ∷ items) =
      omega (arith, elements_told depth items, ap (λ d. sum_at_top begin_count d items) (less depth))
    where
      less : (d : ℕ) → suc d - 1 ≡ d
      less d = omega arith
  elements_told zero (Chars low high ∷ items) = omega (arith, elements_told zero items)
  elements_told (suc depth) (Chars low high ∷ items) = omega (arith, elements_told (suc depth) items)

  run_told : (low high : ℕ) → low < high → high ≤ length chars → length (range_of chars low high) ≡ high - low
  run_told low high l h = length-take-le (high - low) _ (omega (arith, l, h, length-drop low chars))

  -- and so are the characters that stand in none, where the runs are there
  pub characters_told : (depth : ℕ) (items : List Item) → AreItemsIn names attrs chars items → characters_at depth (map (piece_of names attrs chars) items) ≡ sum_at_top run_length depth items
  characters_told depth [] h = refl
  characters_told zero (Begin name low high ∷ items) h = omega (arith, characters_told 1 items h.1)
  characters_told (suc depth) (Begin name low high ∷ items) h =
      omega (arith, characters_told (suc (suc depth)) items h.1, ap (λ d. sum_at_top run_length d items) (deeper depth))
    where
      deeper : (d : ℕ) → suc d + 1 ≡ suc (suc d)
      deeper d = omega arith
  characters_told zero (Close name ∷ items) h = omega (arith, characters_told zero items h.1)
  characters_told (suc depth) (Close name ∷ items) h =
      omega (arith, characters_told depth items h.1, ap (λ d. sum_at_top run_length d items) (less depth))
    where
      less : (d : ℕ) → suc d - 1 ≡ d
      less d = omega arith
  characters_told zero (Chars low high ∷ items) h = omega (arith, run_told low high h.0.0 h.0.1, characters_told zero items h.1)
  characters_told (suc depth) (Chars low high ∷ items) h = omega (arith, characters_told (suc depth) items h.1)
