-- The categories, and the characters that each has.
use Rattle.std.proofs.Common.{◌≡◌, ℕ, ◌++◌, List, sym, ap, ◌∙◌, IsTrue}
use Rattle.std.proofs.lemmas.Bool.{eqb-true, eq-eqb}
use Rattle.unicode.specs.GeneralCategory.{general_category}
use Rattle.unicode.specs.Rows.{HasExactly}
use Rattle.ucd_category.specs.declared.GeneralCategory.{GeneralCategory}
use Rattle.ucd_category.specs.declared.GeneralCategory.TheVariants.{Unassigned}
use Rattle.ucd_category.specs.GeneralCategory.{general_category_number, general_category_eq}
use Rattle.ucd_category.proofs.GeneralCategoryLemmas.{general_category_from_number-general_category_number, general_category_number-lt, general_category_number_injective}
use Rattle.regex_class.specs.Ranges.{Range}
use Rattle.ix_model.specs.declared.grammar.Member.{Member}
use Rattle.ix_model.specs.declared.classes.TheConstants.{CATEGORIES}
use Rattle.ix_sets.specs.Gains.{Gains}
use Rattle.ix_sets.specs.Kinds.{has_category}
use Rattle.std.specs.List.{list_any}
use Rattle.ix_sets.proofs.Gaining.{SomeOf, some_at, gains_ranges, gains_as}

-- every category is in the list
pub every : (g : GeneralCategory) → SomeOf (λ v. g ≡ v) CATEGORIES
every g = some_at (λ v. g ≡ v) CATEGORIES (general_category_number g) Unassigned (general_category_number-lt g) (sym (general_category_from_number-general_category_number g))

same_category : (a b : GeneralCategory) → IsTrue (general_category_eq a b) → a ≡ b
same_category a b h = general_category_number_injective a b (eqb-true _ _ h)

category_same : (a b : GeneralCategory) → a ≡ b → IsTrue (general_category_eq a b)
category_same a b h = eq-eqb _ _ (ap general_category_number h)

-- some class among the members has the character c
abbrev pub IsNamed : List Member → ℕ → Type 0
IsNamed ms c = IsTrue (list_any (has_category (general_category c)) ms)

-- c has the category v, and some class among the members has it
abbrev pub IsNamedAs : List Member → ℕ → GeneralCategory → Type 0
IsNamedAs ms c v = (general_category c ≡ v) × IsNamed ms c

-- the characters of a category that some class has
pub gains_category : {old new : List Range} (more : List Range) (ms : List Member) (v : GeneralCategory) → IsTrue (list_any (has_category v) ms) → new ≡ old ++ more → HasExactly more (λ c. general_category_eq (general_category c) v) → Gains old new (λ c. IsNamedAs ms c v)
gains_category more ms v t e all =
    gains_as (λ c. IsNamedAs ms c v) (gains_ranges more (λ c. general_category_eq (general_category c) v) e all)
    (λ c h. let is = same_category (general_category c) v h in (is, ap (λ g. list_any (has_category g) ms) is ∙ t))
    (λ c h. category_same (general_category c) v h.0)
