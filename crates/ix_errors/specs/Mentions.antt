-- What may be wrong in a grammar, as a list of mentions in the grammar's order.
-- Source: this project's own.
use Rattle.std.specs.Prelude.{◌≡◌, ℕ, List, [], ◌∷◌, ◌++◌}
use Rattle.std.specs.List.{flat_map}
use Rattle.ix_model.specs.declared.grammar.Grammar.{Grammar}
use Rattle.ix_model.specs.declared.grammar.Member.{Member}
use Rattle.ix_model.specs.declared.grammar.Factor.{Factor}
use Rattle.ix_model.specs.Matching.Codes.{bound_value}
use Rattle.ix_model.specs.Grammars.Factors.{codes_of_bound, codes_of_member, ranges_of_member, classes_of_member, codes_of_factor, ranges_of_factor, classes_of_factor, calls_of_factor, factors_of}
use Rattle.ix_errors.specs.declared.mention.Mention.{Mention}
use Rattle.ix_errors.specs.declared.mention.Mention.TheVariants.{Code, Range, Class, Call}

-- the digits of the numbers that are mentioned, those of a range among them
abbrev pub code_in : Mention → List (List ℕ)
code_in (Code digits) = digits.now ∷ []
code_in (Range low high) = codes_of_bound low.now ++ codes_of_bound high.now
code_in _ = []

-- the two characters of the range that is mentioned, where one is
abbrev pub range_in : Mention → List (ℕ × ℕ)
range_in (Range low high) = (bound_value low.now, bound_value high.now) ∷ []
range_in _ = []

-- the name of the class that is mentioned, where one is
abbrev pub class_in : Mention → List (List ℕ)
class_in (Class name) = name.now ∷ []
class_in _ = []

-- the name of the rule that is called, where one is
abbrev pub call_in : Mention → List (List ℕ)
call_in (Call name) = name.now ∷ []
call_in _ = []

-- the new mentions are the old ones, and then these numbers, ranges, classes and calls
pub record Adds (old new : List Mention) (codes : List (List ℕ)) (ranges : List (ℕ × ℕ)) (classes calls : List (List ℕ)) : Type 0 where
  pub codes_are : flat_map code_in new ≡ flat_map code_in old ++ codes
  pub ranges_are : flat_map range_in new ≡ flat_map range_in old ++ ranges
  pub classes_are : flat_map class_in new ≡ flat_map class_in old ++ classes
  pub calls_are : flat_map call_in new ≡ flat_map call_in old ++ calls

-- the new mentions are the old ones, and then those in the members, in their order
abbrev pub AddsMembers : List Mention → List Mention → List Member → Type 0
AddsMembers old new ms = Adds old new (flat_map codes_of_member ms) (flat_map ranges_of_member ms) (flat_map classes_of_member ms) []

-- the new mentions are the old ones, and then those in the factors, in their order
abbrev pub AddsFactors : List Mention → List Mention → List Factor → Type 0
AddsFactors old new fs = Adds old new (flat_map codes_of_factor fs) (flat_map ranges_of_factor fs) (flat_map classes_of_factor fs) (flat_map calls_of_factor fs)

-- the mentions are those of the grammar
abbrev pub AreOf : Grammar → List Mention → Type 0
AreOf g mentions = AddsFactors [] mentions (factors_of g)
