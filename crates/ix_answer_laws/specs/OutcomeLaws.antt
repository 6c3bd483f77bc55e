-- Laws of what comes out of a text: there is at most one offset, and one code or none.
use Rattle.std.specs.Prelude.{◌≡◌, ◌⊎◌, ℕ, List}
use Rattle.ix_model.specs.declared.grammar.Grammar.{Grammar}
use Rattle.ix_model.specs.Documents.Gives.{Givens}
use Rattle.ix_model.specs.Derivations.Offset.{Offset}
use Rattle.ix_model.specs.Documents.Dyn.{Refusal, Dyn, HasNoRefusal}

-- a text has at most one offset
abbrev pub OffsetIsOne : Type 0
OffsetIsOne = (g : Grammar) (s : List ℕ) (o p : ℕ) → Offset g s o → Offset g s p → o ≡ p

-- at most one code holds as the least, with one item
abbrev pub RefusalIsOne : Type 0
RefusalIsOne = (gs : Givens) (code other : Refusal) → Dyn gs code → Dyn gs other → code ≡ other

-- a code holds as the least, or none holds
abbrev pub RefusalOrNone : Type 0
RefusalOrNone = (gs : Givens) → ((code : Refusal) × Dyn gs code) ⊎ HasNoRefusal gs
