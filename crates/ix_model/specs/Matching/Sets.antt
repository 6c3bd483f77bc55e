-- The characters that a set matches, member by member.
-- Source: Invisible XML 1.0, "Character sets".
use Rattle.std.specs.Prelude.{◌≡◌, ◌⊎◌, ℕ, ◌≤◌, Bool, true, false, List, [], ◌∷◌, IsTrue, Contains}
use Rattle.ix_model.specs.declared.grammar.Member.{Member}
use Rattle.ix_model.specs.declared.grammar.Member.TheVariants as member
use Rattle.ix_model.specs.Matching.Classes.{in_class}
use Rattle.ix_model.specs.Matching.Codes.{code_value, bound_value}

-- the member has the character c
abbrev pub IsOfMember : ℕ → Member → Type 0
IsOfMember c (member.Quoted text) = Contains text c
IsOfMember c (member.Code digits) = c ≡ code_value digits
IsOfMember c (member.Range low high) = (bound_value low ≤ c) × (c ≤ bound_value high)
IsOfMember c (member.Class name) = IsTrue (in_class name c)

-- some member has the character c
abbrev pub IsOfSome : ℕ → List Member → Type 0
IsOfSome c [] = ⊥
IsOfSome c (m ∷ ms) = IsOfMember c m ⊎ IsOfSome c ms

-- the set matches the character c: some member has it, or for an exclusion none has
abbrev pub InSet : Bool → List Member → ℕ → Type 0
InSet false ms c = IsOfSome c ms
InSet true ms c = ¬ (IsOfSome c ms)
