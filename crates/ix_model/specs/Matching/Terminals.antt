-- Where the terminals of a grammar match in a text, and which terms are insertions.
-- Source: Invisible XML 1.0, "Terminals" and "Insertions".
use Rattle.std.specs.Prelude.{◌≡◌, ◌⊎◌, ℕ, ◌+◌, ◌≤◌, Bool, List, [], ◌∷◌, length, take, drop, Option}
use Rattle.ix_model.specs.declared.grammar.TMark.{TMark}
use Rattle.ix_model.specs.declared.grammar.Chars.{Chars}
use Rattle.ix_model.specs.declared.grammar.Member.{Member}
use Rattle.ix_model.specs.declared.grammar.Term.{Term, One}
use Rattle.ix_model.specs.declared.grammar.Factor.{Lit, Set, Insert}
use Rattle.ix_model.specs.Matching.Codes.{characters}
use Rattle.ix_model.specs.Matching.Sets.{InSet}

-- the characters cs stand in the text from i to j
abbrev pub StandsAt : List ℕ → List ℕ → ℕ → ℕ → Type 0
StandsAt s cs i j = (i + length cs ≡ j) × (j ≤ length s) × (take (length cs) (drop i s) ≡ cs)

-- the term is a literal whose characters stand in the text from i to j, or a set that has the one character there
abbrev pub Matches : List ℕ → Term → ℕ → ℕ → Type 0
Matches s t i j =
    ((tmark : Option TMark) × (chars : Chars) × t ≡ One (Lit tmark chars) × StandsAt s (characters chars) i j)
    ⊎ ((tmark : Option TMark) × (exclude : Bool) × (members : List Member) × (c : ℕ) × t ≡ One (Set tmark exclude members) × InSet exclude members c × StandsAt s (c ∷ []) i j)

-- the term is an insertion: it matches everywhere and takes no character
abbrev pub IsInsertion : Term → Type 0
IsInsertion t = (chars : Chars) × t ≡ One (Insert chars)
