-- The factors that stand for something: their numbers are those of characters, and what they call is there.
-- Source: this project's own.
use Rattle.std.specs.List.{AllByRecursion}
use Rattle.ix_model.specs.declared.grammar.Grammar.{Grammar}
use Rattle.ix_model.specs.declared.grammar.Factor.{Factor}
use Rattle.ix_model.specs.Grammars.Breach.{IsCodePoint, IsDefined}
use Rattle.ix_model.specs.Grammars.Factors.{codes_of_factor, calls_of_factor}
use Rattle.ix_model.specs.Spelling.Spells.{IsHex}

-- its numbers are those of characters, in hexadecimal digits, and a rule has the name that it calls
pub record IsSound (g : Grammar) (f : Factor) : Type 0 where
  pub numbers : AllByRecursion IsHex (codes_of_factor f)
  pub code_points : AllByRecursion IsCodePoint (codes_of_factor f)
  pub calls : AllByRecursion (IsDefined g) (calls_of_factor f)
