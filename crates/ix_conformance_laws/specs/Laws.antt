-- Laws of breaches and of conforming grammars.
use Rattle.std.specs.Prelude.{◌≡◌, ◌⊎◌, ◌↔◌, ◌<◌, ℕ, List, Some, length, codes}
use Rattle.std.specs.List.{AllByRecursion}
use Rattle.ix_model.specs.declared.grammar.Grammar.{Grammar}
use Rattle.ix_model.specs.Grammars.Names.{HasUniqueNames}
use Rattle.ix_model.specs.Spelling.Spells.{IsHex, Spells}
use Rattle.ix_model.specs.Grammars.Factors.{codes_of, ranges_of, classes_of, calls_of}
use Rattle.ix_model.specs.Grammars.Breach.{Fault, IsCodePoint, IsRising, IsKnownClass, IsDefined, Breach, LeastBreach}

-- the version is 1.0 where there is one, each number is that of a character, each range rises, each class is known,
-- each call names a rule, and no two rules have one name
pub record IsFaultless (g : Grammar) : Type 0 where
  pub version : (text : List ℕ) → g.version ≡ Some text → text ≡ codes "1.0"
  pub code_points : AllByRecursion IsCodePoint (codes_of g)
  pub ranges : AllByRecursion IsRising (ranges_of g)
  pub classes : AllByRecursion IsKnownClass (classes_of g)
  pub calls : AllByRecursion (IsDefined g) (calls_of g)
  pub names : HasUniqueNames g

-- no code holds of exactly those grammars that are without a fault
abbrev pub FaultlessIsUnrefused : Type 0
FaultlessIsUnrefused = (g : Grammar) → ((fault : Fault) → ¬ (Breach g fault)) ↔ IsFaultless g

-- of each grammar a least code holds, with its item, or none does
abbrev pub EachIsJudged : Type 0
EachIsJudged = (g : Grammar) → ((fault : Fault) × LeastBreach g fault) ⊎ ((fault : Fault) → ¬ (Breach g fault))

-- no grammar has two least codes or two items of one
abbrev pub LeastBreachIsOne : Type 0
LeastBreachIsOne = (g : Grammar) (one two : Fault) → LeastBreach g one → LeastBreach g two → one ≡ two

-- what characters spell has a rule, and its numbers are written in hexadecimal digits
abbrev pub SpelledIsWritten : Type 0
SpelledIsWritten = (c : List ℕ) (g : Grammar) → Spells c g → (0 < length g.rules) × AllByRecursion IsHex (codes_of g)
