-- What the tests of characters say of those that begin tokens.
use Rattle.std.proofs.Common.{◌≡◌, refl, ap, ◌∙◌, ℕ, List, [], ◌∷◌, ◌⊎◌, inl, inr}
use Rattle.std.specs.Prelude.{Bool, true, false, not, ◌&&◌, ◌||◌, ◌==◌, codes}
use Rattle.std.specs.List.{list_all}
use Rattle.std.specs.Char.{char_set_contains}
use Rattle.std.proofs.lemmas.Bool.{eqb-true}
use Rattle.unicode.specs.GeneralCategoryGroup.{in_group}
use Rattle.ucd_category.specs.declared.GeneralCategory.{GeneralCategory}
use Rattle.ucd_category.specs.declared.GeneralCategory.TheVariants.{SpaceSeparator}
use Rattle.ucd_category.specs.declared.GeneralCategoryGroup.TheVariants.{Letter}
use Rattle.unicode.specs.GeneralCategory.{general_category}
use Rattle.unicode.specs.Rows.{value_in}
use Rattle.ucd_category.specs.GeneralCategoryRows.{general_category_rows}
use Rattle.ix_model.specs.Spelling.Characters.{is_blank, is_name_start, is_name_part, is_space, is_digit_or_mark}
use Rattle.ix_model.proofs.Booleans.{both, not_false, in_all}

pub stop_is_part : is_name_part 46 ≡ true
unfolding is_name_part is_name_start general_category value_in general_category_rows
stop_is_part = refl

pub brace_no_blank : is_blank 123 ≡ false
unfolding is_blank is_name_start general_category value_in general_category_rows
brace_no_blank = refl

-- the characters with which a token begins that is no word
abbrev pub visible : List ℕ
visible = codes "@^-:=;|,.?*+()[]~\"'#"

abbrev is_apart : ℕ → Bool
is_apart x = not (is_blank x) && (not (is_name_start x) && not (x == 123))

visible_apart : list_all is_apart visible ≡ true
unfolding is_blank is_name_start general_category value_in general_category_rows
visible_apart = refl

-- a visible character is no space, begins no name, and opens no comment
pub record IsVisible (x : ℕ) : Type 0 where
  pub no_blank : is_blank x ≡ false
  pub no_start : is_name_start x ≡ false
  pub no_brace : (x == 123) ≡ false

pub see : (x : ℕ) → char_set_contains visible x ≡ true → IsVisible x
see x h =
    let a = in_all is_apart visible x visible_apart h in
    let b = both (not (is_blank x)) _ a in
    let c = both (not (is_name_start x)) _ b.1 in
    record { no_blank = not_false _ b.0; no_start = not_false _ c.0; no_brace = not_false _ c.1 }

pub start_is_part : (x : ℕ) → is_name_start x ≡ true → is_name_part x ≡ true
unfolding is_name_part is_name_start
start_is_part x h = rw h refl

brace_no_start : is_name_start 123 ≡ false
unfolding is_blank is_name_start general_category value_in general_category_rows
brace_no_start = refl

pub start_no_brace : (x : ℕ) → is_name_start x ≡ true → (x == 123) ≡ false
start_no_brace x h = elim (x == 123) as (λ b. (x == 123) ≡ b → b ≡ false) [
  | true ↦ λ e. absurd (cc (h, brace_no_start, ap is_name_start (eqb-true x 123 e)))
  | false ↦ λ _. refl
] refl

space_no_letter : (g : GeneralCategory) → is_space g ≡ true → in_group Letter g ≡ false
space_no_letter SpaceSeparator h = refl
space_no_letter _ h = absurd (cc h)

blanks : list_all (λ x. not (is_name_start x)) (9 ∷ 10 ∷ 13 ∷ []) ≡ true
unfolding is_blank is_name_start general_category value_in general_category_rows
blanks = refl

low_no_space : is_space (general_category 95) ≡ false
unfolding general_category value_in general_category_rows
low_no_space = refl

start_of : (x : ℕ) → is_name_start x ≡ true → (x ≡ 95) ⊎ (in_group Letter (general_category x) ≡ true)
unfolding is_name_start
start_of x h = elim (x == 95) as (λ b. (x == 95) ≡ b → b || in_group Letter (general_category x) ≡ true → (x ≡ 95) ⊎ (in_group Letter (general_category x) ≡ true)) [
  | true ↦ λ e _. inl (eqb-true x 95 e)
  | false ↦ λ _ m. inr m
] refl h

no_space : (x : ℕ) → (x ≡ 95) ⊎ (in_group Letter (general_category x) ≡ true) → is_space (general_category x) ≡ false
no_space x (inl e) = ap (λ (y : ℕ). is_space (general_category y)) e ∙ low_no_space
no_space x (inr h) = elim (is_space (general_category x)) as (λ b. is_space (general_category x) ≡ b → b ≡ false) [
  | true ↦ λ e. absurd (cc (h, space_no_letter _ e))
  | false ↦ λ _. refl
] refl

pub start_no_blank : (x : ℕ) → is_name_start x ≡ true → is_blank x ≡ false
unfolding is_blank
start_no_blank x h = elim (char_set_contains (9 ∷ 10 ∷ 13 ∷ []) x) as (λ b. char_set_contains (9 ∷ 10 ∷ 13 ∷ []) x ≡ b → b || is_space (general_category x) ≡ false) [
  | true ↦ λ e. absurd (cc (h, not_false _ (in_all (λ x. not (is_name_start x)) (9 ∷ 10 ∷ 13 ∷ []) x blanks e)))
  | false ↦ λ _. no_space x (start_of x h)
] refl

pub brace_no_part : is_name_part 123 ≡ false
unfolding is_name_part is_name_start general_category value_in general_category_rows
brace_no_part = refl

space_no_part : (g : GeneralCategory) → is_space g ≡ true → is_digit_or_mark g ≡ false
space_no_part SpaceSeparator h = refl
space_no_part _ h = absurd (cc h)

blanks_no_part : list_all (λ x. not (is_name_part x)) (9 ∷ 10 ∷ 13 ∷ []) ≡ true
unfolding is_name_part is_name_start general_category value_in general_category_rows
blanks_no_part = refl

points_no_space : list_all (λ x. not (is_space (general_category x))) (45 ∷ 46 ∷ 183 ∷ 8255 ∷ 8256 ∷ []) ≡ true
unfolding general_category value_in general_category_rows
points_no_space = refl

space_to_no_part : (x : ℕ) → is_space (general_category x) ≡ true → is_name_start x ≡ false → is_name_part x ≡ false
unfolding is_name_part is_name_start
space_to_no_part x h s =
    elim (char_set_contains (45 ∷ 46 ∷ 183 ∷ 8255 ∷ 8256 ∷ []) x) as (λ b. char_set_contains (45 ∷ 46 ∷ 183 ∷ 8255 ∷ 8256 ∷ []) x ≡ b → ((x == 95) || in_group Letter (general_category x)) || b || is_digit_or_mark (general_category x) ≡ false) [
      | true ↦ λ e. absurd (cc (h, not_false _ (in_all (λ x. not (is_space (general_category x))) (45 ∷ 46 ∷ 183 ∷ 8255 ∷ 8256 ∷ []) x points_no_space e)))
      | false ↦ λ _. rw (s, space_no_part _ h) refl
    ] refl

blank_of : (x : ℕ) → is_blank x ≡ true → (char_set_contains (9 ∷ 10 ∷ 13 ∷ []) x ≡ true) ⊎ (is_space (general_category x) ≡ true)
unfolding is_blank
blank_of x h = elim (char_set_contains (9 ∷ 10 ∷ 13 ∷ []) x) as (λ b. char_set_contains (9 ∷ 10 ∷ 13 ∷ []) x ≡ b → b || is_space (general_category x) ≡ true → (char_set_contains (9 ∷ 10 ∷ 13 ∷ []) x ≡ true) ⊎ (is_space (general_category x) ≡ true)) [
  | true ↦ λ e _. inl e
  | false ↦ λ _ m. inr m
] refl h

blank_no_start : (x : ℕ) → is_blank x ≡ true → is_name_start x ≡ false
blank_no_start x h = elim (is_name_start x) as (λ b. is_name_start x ≡ b → b ≡ false) [
  | true ↦ λ e. absurd (cc (h, start_no_blank x e))
  | false ↦ λ _. refl
] refl

pub blank_no_part : (x : ℕ) → is_blank x ≡ true → is_name_part x ≡ false
blank_no_part x h = go (blank_of x h)
  where
    go : (char_set_contains (9 ∷ 10 ∷ 13 ∷ []) x ≡ true) ⊎ (is_space (general_category x) ≡ true) → is_name_part x ≡ false
    go (inl e) = not_false _ (in_all (λ x. not (is_name_part x)) (9 ∷ 10 ∷ 13 ∷ []) x blanks_no_part e)
    go (inr e) = space_to_no_part x e (blank_no_start x h)

-- the letters of the prolog
pub letters : list_all (λ x. is_name_start x && is_name_part x) (codes "ixmlversion") ≡ true
unfolding is_name_part is_name_start general_category value_in general_category_rows
letters = refl

-- a digit of a number begins a word, or no token at all
abbrev pub begins_none : ℕ → Bool
begins_none x = not (char_set_contains (codes "\"'#*+@^-:=;|,.?()[]~") x)

abbrev is_digit_apart : ℕ → Bool
is_digit_apart x = not (is_blank x) && (not (x == 123) && (is_name_start x || begins_none x))

digits_apart : list_all is_digit_apart (codes "0123456789abcdefABCDEF") ≡ true
unfolding is_blank is_name_start general_category value_in general_category_rows
digits_apart = refl

pub record IsDigitApart (x : ℕ) : Type 0 where
  pub no_blank : is_blank x ≡ false
  pub no_brace : (x == 123) ≡ false
  pub either : is_name_start x || begins_none x ≡ true

pub digit_apart : (x : ℕ) → char_set_contains (codes "0123456789abcdefABCDEF") x ≡ true → IsDigitApart x
digit_apart x h =
    let a = both (not (is_blank x)) _ (in_all is_digit_apart (codes "0123456789abcdefABCDEF") x digits_apart h) in
    let b = both (not (x == 123)) _ a.1 in
    record { no_blank = not_false _ a.0; no_brace = not_false _ b.0; either = b.1 }

pub close_no_blank : is_blank 125 ≡ false
unfolding is_blank is_name_start general_category value_in general_category_rows
close_no_blank = refl
