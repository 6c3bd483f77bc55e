-- The law of spelling.
use Rattle.std.specs.Prelude.{◌≡◌, ℕ, List}
use Rattle.ix_model.specs.declared.grammar.Grammar.{Grammar}
use Rattle.ix_model.specs.Spelling.Spells.{Spells}

-- no characters spell two grammars
abbrev pub SpellingIsOne : Type 0
SpellingIsOne = (c : List ℕ) (g h : Grammar) → Spells c g → Spells c h → g ≡ h
