-- The characters that stand between tokens, that begin a name, and that stand within one.
-- Source: Invisible XML 1.0, the rules whitespace, namestart and namefollower of its grammar; the categories are those of the Unicode Standard.
use Rattle.std.specs.Prelude.{ℕ, Bool, true, false, ◌||◌, ◌==◌, [], ◌∷◌}
use Rattle.std.specs.Char.{char_set_contains}
use Rattle.unicode.specs.GeneralCategory.{general_category}
use Rattle.unicode.specs.GeneralCategoryGroup.{in_group}
use Rattle.ucd_category.specs.declared.GeneralCategory.{GeneralCategory}
use Rattle.ucd_category.specs.declared.GeneralCategory.TheVariants.{DecimalNumber, NonspacingMark, SpaceSeparator}
use Rattle.ucd_category.specs.declared.GeneralCategoryGroup.TheVariants.{Letter}

-- whether the category is Zs
abbrev pub is_space : GeneralCategory → Bool
is_space SpaceSeparator = true
is_space _ = false

-- whether the category is Nd or Mn
abbrev pub is_digit_or_mark : GeneralCategory → Bool
is_digit_or_mark DecimalNumber = true
is_digit_or_mark NonspacingMark = true
is_digit_or_mark _ = false

-- whether c is a blank: a tab, a line feed, a carriage return, or of category Zs
unfoldable pub is_blank : ℕ → Bool
is_blank c = char_set_contains (9 ∷ 10 ∷ 13 ∷ []) c || is_space (general_category c)

-- whether c begins a name: it is `_` or of a category of letters
unfoldable pub is_name_start : ℕ → Bool
is_name_start c = (c == 95) || in_group Letter (general_category c)

-- whether c stands within a name: it begins one, is `-`, `.`, U+00B7, U+203F or U+2040, or is of category Nd or Mn
unfoldable pub is_name_part : ℕ → Bool
unfolding is_name_start
is_name_part c = is_name_start c || char_set_contains (45 ∷ 46 ∷ 183 ∷ 8255 ∷ 8256 ∷ []) c || is_digit_or_mark (general_category c)
