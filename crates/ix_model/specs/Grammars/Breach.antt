-- What keeps a grammar from conforming. Each reason has a code, G02 to G07, and names an item: the first in the grammar's order.
-- Of several codes that hold the least counts.
-- Source: Invisible XML 1.0, "Conformance" and the errors that its sections name; the codes and their order are this project's own.
use Rattle.std.specs.Prelude.{◌≡◌, ◌≢◌, ◌<◌, ◌≤◌, ℕ, List, Some, IsTrue, length, codes}
use Rattle.std.specs.Char.{IsScalar}
use Rattle.std.specs.List.{AllByRecursion}
use Rattle.ucd_category.specs.declared.GeneralCategory.{GeneralCategory}
use Rattle.ix_model.specs.declared.grammar.Grammar.{Grammar}
use Rattle.ix_model.specs.Firsts.{IsFirstOf}
use Rattle.ix_model.specs.Grammars.Written.{IsNamed}
use Rattle.ix_model.specs.Matching.Codes.{code_value}
use Rattle.ix_model.specs.Matching.Classes.{code_of, is_code_in_class}
use Rattle.ix_model.specs.Spelling.Spells.{IsHex}
use Rattle.ix_model.specs.Grammars.Factors.{codes_of, ranges_of, classes_of, calls_of}

-- a code and the item that is named with it
pub data Fault : Type 0 where
  version : List ℕ → Fault
  code_point : List ℕ → Fault
  range : ℕ → ℕ → Fault
  class : List ℕ → Fault
  undefined : List ℕ → Fault
  duplicate : List ℕ → Fault

-- the number of its code, G02 to G07
abbrev pub code_number : Fault → ℕ
code_number (version text) = 2
code_number (code_point digits) = 3
code_number (range low high) = 4
code_number (class name) = 5
code_number (undefined name) = 6
code_number (duplicate name) = 7

-- the digits are the number of a character: at most 10FFFF, and not from D800 to DFFF
abbrev pub IsCodePoint : List ℕ → Type 0
IsCodePoint digits = IsScalar (code_value digits)

-- the first character of a range is not greater than the second
abbrev pub IsRising : ℕ × ℕ → Type 0
IsRising bounds = bounds.0 ≤ bounds.1

-- the name is that of a general category, or the first letter of some
abbrev pub IsKnownClass : List ℕ → Type 0
IsKnownClass name = (category : GeneralCategory) × IsTrue (is_code_in_class name (code_of category))

-- some rule has the name
abbrev pub IsDefined : Grammar → List ℕ → Type 0
IsDefined g name = (r : ℕ) × IsNamed g r name

-- rule r has the name, and so has an earlier rule
abbrev pub IsRepeated : Grammar → ℕ → List ℕ → Type 0
IsRepeated g r name = IsNamed g r name × (q : ℕ) × (q < r) × IsNamed g q name

-- the code holds, and this is its item
abbrev pub Breach : Grammar → Fault → Type 0
Breach g (version text) = (g.version ≡ Some text) × (text ≢ codes "1.0")
Breach g (code_point digits) = IsFirstOf (λ n other. ¬ (IsCodePoint other)) (codes_of g) digits
Breach g (range low high) = IsFirstOf (λ n bounds. ¬ (IsRising bounds)) (ranges_of g) (low, high)
Breach g (class name) = IsFirstOf (λ n other. ¬ (IsKnownClass other)) (classes_of g) name
Breach g (undefined name) = IsFirstOf (λ n other. ¬ (IsDefined g other)) (calls_of g) name
Breach g (duplicate name) = (r : ℕ) × IsRepeated g r name × ((p : ℕ) (other : List ℕ) → p < r → ¬ (IsRepeated g p other))

-- the code holds with this item, and no lesser code holds
abbrev pub LeastBreach : Grammar → Fault → Type 0
LeastBreach g fault = Breach g fault × ((other : Fault) → Breach g other → code_number fault ≤ code_number other)

-- the grammar has a rule, its numbers are written in hexadecimal digits, and no code holds
pub record Conforming (g : Grammar) : Type 0 where
  pub has_rule : 0 < length g.rules
  pub numbers : AllByRecursion IsHex (codes_of g)
  pub no_breach : (fault : Fault) → ¬ (Breach g fault)
