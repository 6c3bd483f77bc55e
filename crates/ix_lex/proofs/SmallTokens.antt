-- The worked examples of tokens.
use Rattle.std.proofs.Common.{◌≡◌, refl, ap, sym, ◌∙◌, true, false, ℕ, List, [], ◌∷◌, codes, Some, arith}
use Rattle.unicode.specs.GeneralCategory.{general_category}
use Rattle.unicode.specs.Rows.{value_in}
use Rattle.ucd_category.specs.GeneralCategoryRows.{general_category_rows}
use Rattle.ix_model.specs.Spelling.Characters.{is_blank, is_name_start, is_name_part}
use Rattle.ix_spelling_laws.specs.Reading.Lexing.{Lexeme, Lexes, after, has_gap, next, plus, pluses, quote, hex}
use Rattle.ix_spelling_laws.proofs.ReadingComplete.{same_some}
use Rattle.ix_spelling_laws.proofs.SpacingFacts.{spacing_runs}
use Rattle.ix_lex.specs.Examples.{name, colon, close_plus, apart_plus, close_pluses}
use Rattle.ix_lex.specs.Spans.{AreTokens}
use Rattle.ix_lex.specs.Spelled.{AreSpelled, StandIn, WholeTokenAt}
use Rattle.ix_lex.specs.Strings.{IsString}
use Rattle.ix_lex.proofs.Spelling.{spelled, spelled_lexes, stand_in, whole_read}

pub both : AreTokens (codes "S:") 0 (name ∷ colon ∷ [])
unfolding is_blank is_name_start is_name_part general_category value_in general_category_rows
both = (omega arith, omega arith, omega arith, refl, refl, (omega arith, omega arith, omega arith, refl, refl, refl))

pub not_one : ¬ (AreTokens (codes "S:") 0 (name ∷ []))
unfolding is_blank is_name_start is_name_part general_category value_in general_category_rows
not_one h = let e : codes ":" ≡ [] = h.5 in absurd (cc e)

pub string : IsString (codes "'a'")
string = (refl, (codes "a", refl))

pub not_string : ¬ (IsString (codes "'a"))
not_string h = absurd (cc h.1.1)

pub stand : StandIn (codes "S:") 0 (name ∷ colon ∷ [])
stand = stand_in (codes "S:") 0 (name ∷ colon ∷ []) both

pub not_alone : ¬ (StandIn (codes "S:") 0 (name ∷ []))
unfolding is_blank is_name_start is_name_part general_category value_in general_category_rows
not_alone h = let e : codes ":" ≡ [] = spacing_runs (codes ":") [] h.2 in absurd (cc e)

apart_lexes : Lexes (close_plus ∷ apart_plus ∷ []) (codes "+ +")
unfolding is_blank is_name_start is_name_part general_category value_in general_category_rows
apart_lexes = (codes " +", refl, refl, ([], refl, refl, refl))

pub apart : AreSpelled (close_plus ∷ apart_plus ∷ []) (codes "+ +")
apart = spelled (close_plus ∷ apart_plus ∷ []) (codes "+ +") apart_lexes

first_apart : next (after (codes "+ +")) ≡ Some (plus, codes " +")
unfolding is_blank is_name_start is_name_part general_category value_in general_category_rows
first_apart = refl

gap_behind : has_gap (codes " +") ≡ true
unfolding is_blank is_name_start is_name_part general_category value_in general_category_rows
gap_behind = refl

no_gap : (r : List ℕ) → next (after (codes "+ +")) ≡ Some (plus, r) → false ≡ has_gap r → ⊥
no_gap r first gap =
    let same : (plus, codes " +") ≡ (plus, r) = same_some (plus, codes " +") (plus, r) (sym first_apart ∙ first) in
    let behind : r ≡ codes " +" = ap (λ (v : Lexeme × List ℕ). v.1) (sym same) in
    let both : false ≡ true = gap ∙ ap has_gap behind ∙ gap_behind in
    absurd (cc both)

not_apart_lexes : ¬ (Lexes (close_plus ∷ close_plus ∷ []) (codes "+ +"))
not_apart_lexes (r, g, n, (s, f, m, rest)) = no_gap r n f

pub not_apart : ¬ (AreSpelled (close_plus ∷ close_plus ∷ []) (codes "+ +"))
not_apart h = not_apart_lexes (spelled_lexes (close_plus ∷ close_plus ∷ []) (codes "+ +") h)

one_lexes : Lexes (close_pluses ∷ []) (codes "++")
unfolding is_blank is_name_start is_name_part general_category value_in general_category_rows
one_lexes = ([], refl, refl, refl)

pub one : AreSpelled (close_pluses ∷ []) (codes "++")
one = spelled (close_pluses ∷ []) (codes "++") one_lexes

first_two : next (after (codes "++")) ≡ Some (pluses, [])
unfolding is_blank is_name_start is_name_part general_category value_in general_category_rows
first_two = refl

other_mark : (v w : Lexeme × List ℕ) → v.0 ≡ pluses → w.0 ≡ plus → v ≡ w → ⊥
other_mark v w p q e = let k : pluses ≡ plus = sym p ∙ ap (λ (u : Lexeme × List ℕ). u.0) e ∙ q in absurd (cc k)

not_two_lexes : ¬ (Lexes (close_plus ∷ close_plus ∷ []) (codes "++"))
not_two_lexes (r, g, n, rest) = other_mark (pluses, []) (plus, r) refl refl (same_some (pluses, []) (plus, r) (sym first_two ∙ n))

pub not_two : ¬ (AreSpelled (close_plus ∷ close_plus ∷ []) (codes "++"))
not_two h = not_two_lexes (spelled_lexes (close_plus ∷ close_plus ∷ []) (codes "++") h)

pub whole_string : WholeTokenAt (codes "'a'.") (codes ".") (quote (codes "a"))
unfolding is_blank is_name_start is_name_part general_category value_in general_category_rows
whole_string = whole_read (codes "'a'.") (codes ".") (quote (codes "a")) refl

pub not_whole_string : ¬ (WholeTokenAt (codes "'a''b'") (codes "'b'") (quote (codes "a")))
not_whole_string h = h.1 39 (codes "a''b'") (codes "b'") refl refl

pub whole_number : WholeTokenAt (codes "#41.") (codes ".") (hex (codes "41"))
unfolding is_blank is_name_start is_name_part general_category value_in general_category_rows
whole_number = whole_read (codes "#41.") (codes ".") (hex (codes "41")) refl

pub not_whole_number : ¬ (WholeTokenAt (codes "#41") (codes "1") (hex (codes "4")))
not_whole_number h = let e : true ≡ false = h.1 49 [] refl in absurd (cc e)
