-- The names of rules, and the first rule with a name.
-- Source: Invisible XML 1.0, "Nonterminals": a nonterminal refers to the rule with its name.
use Rattle.std.specs.Prelude.{◌≡◌, ℕ, List, Option, Some, None, map, if◌then◌else◌}
use Rattle.std.specs.List.{position_from}
use Rattle.std.specs.Option.{option_or}
use Rattle.std.specs.Str.{bytes_eq}
use Rattle.std.specs.Ordering.{nat_cmp}
use Rattle.std.specs.Cmp.Lexicographic.{slice_cmp}
use Rattle.std.specs.BTreeMap.{BTreeMap, get_by}
use Rattle.std.specs.Borrow.{Bor}
use Rattle.ix_model.specs.declared.grammar.Grammar.{Grammar}
use Rattle.ix_model.specs.declared.grammar.Rule.{Rule}
use Rattle.ix_model.specs.Firsts.{IsFirstAt}
use Rattle.ix_model.specs.Grammars.Written.{IsNamed}

-- no two rules have one name
abbrev pub HasUniqueNames : Grammar → Type 0
HasUniqueNames g = (r q : ℕ) (name : List ℕ) → IsNamed g r name → IsNamed g q name → r ≡ q

-- the names of the rules, in their order
abbrev pub names_of : List Rule → List (List ℕ)
names_of rules = map (λ (rule : Rule). rule.name) rules

-- the first of the names that is this one has the number r
abbrev pub IsFirstName : List (List ℕ) → List ℕ → ℕ → Type 0
IsFirstName names name r = IsFirstAt (λ q other. other ≡ name) names r name

-- the number that a map has for a name
abbrev pub number_in : BTreeMap (Bor (List ℕ)) ℕ → List ℕ → Option ℕ
number_in numbers name = get_by (λ k. slice_cmp nat_cmp name k.now) numbers

-- the map has the number of the first of the names that is a given one
abbrev pub AreNumbersOf : BTreeMap (Bor (List ℕ)) ℕ → List (List ℕ) → Type 0
AreNumbersOf numbers names = (name : List ℕ) → number_in numbers name ≡ position_from (bytes_eq name) 0 names

-- the new map has a number for one more name, unless the old one has one for it
abbrev pub AddsFirst : BTreeMap (Bor (List ℕ)) ℕ → BTreeMap (Bor (List ℕ)) ℕ → List ℕ → ℕ → Type 0
AddsFirst old new name number = (other : List ℕ) → number_in new other ≡ option_or (number_in old other) (if bytes_eq other name then Some number else None)
