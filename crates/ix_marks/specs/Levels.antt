-- The marks applied in one pass, step by step: what is given so far, and what waits in the elements around it.
use Rattle.std.specs.Prelude.{ℕ, zero, suc, List, [], ◌∷◌, ◌++◌}
use Rattle.ix_model.specs.declared.grammar.Mark.{Mark}
use Rattle.ix_model.specs.declared.grammar.Mark.TheVariants as mark
use Rattle.ix_model.specs.declared.rules.Rules.{Rules}
use Rattle.ix_model.specs.declared.step.Step.{Step}
use Rattle.ix_model.specs.declared.step.Step.TheVariants as step
use Rattle.ix_model.specs.Expansion.Numbered.{name_at, insert_at}
use Rattle.ix_model.specs.Documents.Gives.{shown_text}
use Rattle.ix_marks.specs.Pieces.{Attribute, attribute_is, Piece, start_tag, end_tag, characters}

-- an open node
pub data Level : Type 0 where
  hidden : Level
  -- an element, and what was given to the element around it before: pieces and attributes
  of_element : (name : List ℕ) → List Piece → List Attribute → Level

pub data State : Type 0 where
  -- the open nodes, the innermost first; what was given to the innermost open element: pieces, the run behind them, and attributes
  outside : List Level → List Piece → (run : List ℕ) → List Attribute → State
  -- within an attribute, so many nodes deep: its name and its value so far; and what was given before it
  inside : (depth : ℕ) → (name value : List ℕ) → List Level → List Piece → List Attribute → State

abbrev pub beginning : State
beginning = outside [] [] [] []

-- the run, if it has a character, becomes a piece
abbrev pub flush : List Piece → List ℕ → List Piece
flush ps [] = ps
flush ps (c ∷ cs) = ps ++ characters (c ∷ cs) ∷ []

abbrev pub enter_outside : List Level → List Piece → List ℕ → List Attribute → List ℕ → Mark → State
enter_outside ls ps cs ats name mark.Element = outside (of_element name (flush ps cs) ats ∷ ls) [] [] []
enter_outside ls ps cs ats name mark.Attribute = inside 0 name [] ls (flush ps cs) ats
enter_outside ls ps cs ats name mark.Hidden = outside (hidden ∷ ls) ps cs ats

-- a node of this name and mark begins; within an attribute the mark changes nothing
abbrev pub enter : State → List ℕ → Mark → State
enter (outside ls ps cs ats) name m = enter_outside ls ps cs ats name m
enter (inside depth other val ls ps ats) name m = inside (suc depth) other val ls ps ats

abbrev pub leave_outside : List Level → List Piece → List ℕ → List Attribute → State
leave_outside [] ps cs ats = outside [] ps cs ats
leave_outside (hidden ∷ ls) ps cs ats = outside ls ps cs ats
leave_outside (of_element name qs bs ∷ ls) ps cs ats = outside ls (qs ++ (start_tag name ats ∷ (flush ps cs ++ (end_tag name ∷ [])))) [] bs

abbrev pub leave_inside : ℕ → List ℕ → List ℕ → List Level → List Piece → List Attribute → State
leave_inside zero name val ls ps ats = outside ls ps [] (ats ++ attribute_is name val ∷ [])
leave_inside (suc depth) name val ls ps ats = inside depth name val ls ps ats

-- the innermost open node ends, if there is one
abbrev pub leave : State → State
leave (outside ls ps cs ats) = leave_outside ls ps cs ats
leave (inside depth name val ls ps ats) = leave_inside depth name val ls ps ats

-- characters come
abbrev pub read : State → List ℕ → State
read (outside ls ps cs ats) ds = outside ls ps (cs ++ ds) ats
read (inside depth name val ls ps ats) ds = inside depth name (val ++ ds) ls ps ats

-- over the text s, by the names and insertions of the rules
module _ (rules : Rules) (s : List ℕ) where
  abbrev pub after : State → Step → State
  after st (step.Enter name m) = enter st (name_at rules name) m
  after st step.Leave = leave st
  after st (step.Text low high shown) = read st (shown_text s shown low high)
  after st (step.Insert insert) = read st (insert_at rules insert)

  abbrev pub after_all : State → List Step → State
  after_all st [] = st
  after_all st (x ∷ xs) = after_all (after st x) xs
