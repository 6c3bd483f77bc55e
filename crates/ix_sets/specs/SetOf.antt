-- What a set of a grammar is, as ranges.
-- Source: Invisible XML 1.0, "Character sets"; that the ranges are compared over all characters is this project's own.
use Rattle.std.specs.Prelude.{◌≡◌, ◌↔◌, ℕ, Bool, List, Option}
use Rattle.std.specs.Char.{IsScalar}
use Rattle.ix_model.specs.declared.char_set.CharRange.{CharRange}
use Rattle.ix_model.specs.declared.grammar.Factor.{Factor, Set}
use Rattle.ix_model.specs.declared.grammar.Member.{Member}
use Rattle.ix_model.specs.declared.grammar.TMark.{TMark}
use Rattle.ix_model.specs.Matching.Ranges.{IsInRanges}
use Rattle.ix_model.specs.Matching.Sets.{InSet}

-- the factor is a set
abbrev pub IsSet : Factor → Type 0
IsSet f = (m : Option TMark) × (exclude : Bool) × (ms : List Member) × (f ≡ Set m exclude ms)

-- of all characters, the ranges hold exactly those that the set matches
abbrev pub IsSetOf : List CharRange → Factor → Type 0
IsSetOf ranges (Set m exclude ms) = (c : ℕ) → IsScalar c → IsInRanges c ranges ↔ InSet exclude ms c
IsSetOf ranges _ = ⊥
