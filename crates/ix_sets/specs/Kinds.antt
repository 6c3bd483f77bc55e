-- Members that are classes, and those that are not.
-- Source: Invisible XML 1.0, "Character sets".
use Rattle.std.specs.Prelude.{ℕ, Bool, false}
use Rattle.ucd_category.specs.declared.GeneralCategory.{GeneralCategory}
use Rattle.ix_model.specs.declared.grammar.Member.{Member}
use Rattle.ix_model.specs.declared.grammar.Member.TheVariants as member
use Rattle.ix_model.specs.Matching.Classes.{code_of, is_code_in_class}
use Rattle.ix_model.specs.Matching.Sets.{IsOfMember}

-- whether the member is a class that has the characters of the category
abbrev pub has_category : GeneralCategory → Member → Bool
has_category category (member.Class name) = is_code_in_class name (code_of category)
has_category category _ = false

-- the member is no class, and has the character c
abbrev pub IsWritten : ℕ → Member → Type 0
IsWritten c (member.Class name) = ⊥
IsWritten c m = IsOfMember c m
