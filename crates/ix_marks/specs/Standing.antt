-- What a marked tree stands for.
use Rattle.std.specs.Prelude.{◌≡◌, ℕ, List, map}
use Rattle.ix_model.specs.Documents.Gives.{Givens}
use Rattle.ix_marks.specs.MarkedLists.{MarkedLists}
use Rattle.ix_marks.specs.Meaning.{attribute_of, piece_of}
use Rattle.ix_marks.specs.Pieces.{Attribute, Piece, attributes, pieces}

-- with these names, its items say these pieces, one for one, and its top says these attributes
pub record IsMade (names : List (List ℕ)) (m : MarkedLists) (ps : List Piece) (ats : List Attribute) : Type 0 where
  pub items : map (piece_of names m.attrs m.chars) m.items ≡ ps
  pub top : map (attribute_of names m.chars) m.top ≡ ats

-- with these names, it is what is given: its items are the elements and runs, its top the attributes that stand in no element
abbrev pub StandsFor : List (List ℕ) → MarkedLists → Givens → Type 0
StandsFor names m gs = IsMade names m (pieces gs) (attributes gs)
