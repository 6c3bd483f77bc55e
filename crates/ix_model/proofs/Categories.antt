-- The list of categories has each of them, and a class is known where some category of the list has it.
use Rattle.std.proofs.Common.{◌≡◌, refl, ap, ◌∙◌, ℕ, zero, suc, ◌<◌, Bool, true, false, List, [], ◌∷◌, length, get_or, arith}
use Rattle.std.specs.Prelude.{◌||◌}
use Rattle.std.specs.List.{list_any}
use Rattle.ucd_category.specs.declared.GeneralCategory.{GeneralCategory}
use Rattle.ucd_category.specs.declared.GeneralCategory.TheVariants.{Unassigned}
use Rattle.ucd_category.specs.GeneralCategory.{general_category_number}
use Rattle.ucd_category.proofs.GeneralCategoryLemmas.{general_category_from_number-general_category_number, general_category_number-lt}
use Rattle.ix_model.specs.declared.classes.TheConstants.{CATEGORIES}
use Rattle.ix_model.specs.Matching.Classes.{code_of, is_code_in_class}
use Rattle.ix_model.specs.Grammars.Breach.{IsKnownClass}

-- where a test holds of some element, that element
some_of : {X : Type 0} (p : X → Bool) (xs : List X) → list_any p xs ≡ true → (x : X) × (p x ≡ true)
some_of p [] h = absurd (cc h)
some_of {X} p (x ∷ xs) h = by_head (p x) refl h (some_of p xs)
  where
    by_head : (b : Bool) → p x ≡ b → b || list_any p xs ≡ true → (list_any p xs ≡ true → (y : X) × (p y ≡ true)) → (y : X) × (p y ≡ true)
    by_head true e _ more = (x, e)
    by_head false e k more = more k

-- a test that holds of the element at a place holds of some
any_of : {X : Type 0} (p : X → Bool) (xs : List X) (i : ℕ) (d : X) → i < length xs → p (get_or xs i d) ≡ true → list_any p xs ≡ true
any_of p [] i d l h = absurd (omega (arith, l))
any_of p (x ∷ xs) zero d l h = ap (λ (b : Bool). b || list_any p xs) h
any_of p (x ∷ xs) (suc i) d l h = by_head (p x) (any_of p xs i d (omega (arith, l)) h)
  where
    by_head : (b : Bool) → list_any p xs ≡ true → b || list_any p xs ≡ true
    by_head true k = refl
    by_head false k = k

-- each category stands at its number
stands : (g : GeneralCategory) → get_or CATEGORIES (general_category_number g) Unassigned ≡ g
stands g = general_category_from_number-general_category_number g

pub known_by_list : (class : List ℕ) → list_any (λ category. is_code_in_class class (code_of category)) CATEGORIES ≡ true → IsKnownClass class
known_by_list class h = some_of (λ category. is_code_in_class class (code_of category)) CATEGORIES h

pub listed_if_known : (class : List ℕ) → IsKnownClass class → list_any (λ category. is_code_in_class class (code_of category)) CATEGORIES ≡ true
listed_if_known class (g, h) = any_of (λ category. is_code_in_class class (code_of category)) CATEGORIES (general_category_number g) Unassigned (general_category_number-lt g) (ap (λ (c : GeneralCategory). is_code_in_class class (code_of c)) (stands g) ∙ h)
