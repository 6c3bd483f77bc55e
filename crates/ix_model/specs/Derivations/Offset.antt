-- The offset of a text that has no derivation: how far its characters could be read.
-- Source: this project's own.
use Rattle.std.specs.Prelude.{◌≡◌, ◌⊎◌, ℕ, ◌≤◌, List}
use Rattle.ix_model.specs.declared.grammar.Grammar.{Grammar}
use Rattle.ix_model.specs.declared.grammar.Term.{Term}
use Rattle.ix_model.specs.Matching.Terminals.{Matches}
use Rattle.ix_model.specs.Derivations.Entered.{Entered}

module _ (g : Grammar) (s : List ℕ) where
  -- a literal or set that is entered at some position matches from there to j
  abbrev pub IsReached : ℕ → Type 0
  IsReached j = (t : Term) × (i : ℕ) × Entered g s t i × Matches s t i j

  -- the greatest position that is reached, or 0 where none is
  abbrev pub Offset : ℕ → Type 0
  Offset o = (IsReached o ⊎ (o ≡ 0)) × ((j : ℕ) → IsReached j → j ≤ o)
