-- Laws of marked trees: what their readers may rely on.
use Rattle.std.specs.Prelude.{◌≡◌, ◌<◌, ℕ, false, List, [], length, get_or, IfSome, MatchOption}
use Rattle.std.specs.List.{AllByRecursion}
use Rattle.ix_model.specs.declared.grammar.Grammar.{Grammar}
use Rattle.ix_model.specs.declared.rules.Rules.{Rules}
use Rattle.ix_model.specs.declared.rules.Sym.{Sym}
use Rattle.ix_model.specs.declared.state.State.{State}
use Rattle.ix_model.specs.Documents.Dyn.{Holds, same_attribute, element_count, character_count}
use Rattle.ix_model.specs.Documents.Gives.{Givens}
use Rattle.ix_model.specs.Documents.Xml.{contents_bytes, xml}
use Rattle.ix_model.specs.Expansion.Expanded.{Expanded}
use Rattle.ix_model.specs.Expansion.FlatDerives.{FlatDerives}
use Rattle.ix_model.specs.Expansion.FlatTrees.{FlatTree}
use Rattle.ix_model.specs.Expansion.Parts.{Parts}
use Rattle.ix_model.specs.Expansion.Planned.{IsPlanned, IsThere}
use Rattle.ix_model.specs.Expansion.Walk.{walk}
use Rattle.ix_model.specs.Grammars.Names.{HasUniqueNames}
use Rattle.ix_marks.specs.InRange.{AreIn}
use Rattle.ix_marks.specs.MarkedLists.{MarkedLists}
use Rattle.ix_marks.specs.Pieces.{attributes, pieces}
use Rattle.ix_marks.specs.Repeats.{repeat_among}
use Rattle.ix_marks.specs.Standing.{StandsFor}
use Rattle.ix_marks.specs.Steps.{AreStepsIn}
use Rattle.ix_marks.specs.Telling.{IsTold}
use Rattle.ix_marks.specs.Writing.{IsSolid, written, document}

-- no name has two numbers
abbrev pub AreDistinct : List (List ℕ) → Type 0
AreDistinct names = (i j : ℕ) → i < length names → j < length names → get_or names i [] ≡ get_or names j [] → i ≡ j

-- what keeps a derivation from being a document is told by its attributes and pieces
abbrev pub PiecesTell : Type 0
PiecesTell = (gs : Givens) → IsTold gs

-- where the names are distinct, the repeated name of a marked tree is the one that the definition names, or there is none
abbrev pub RepeatTells : Type 0
RepeatTells =
    (names : List (List ℕ)) (m : MarkedLists) (gs : Givens) → AreDistinct names → AreIn names m → StandsFor names m gs →
    MatchOption (repeat_among m.attrs m.items) ((name : List ℕ) → ¬ (Holds gs (same_attribute name))) (λ n. Holds gs (same_attribute (get_or names n [])))

-- the repeated name of a marked tree is there
abbrev pub RepeatIsIn : Type 0
RepeatIsIn = (names : List (List ℕ)) (m : MarkedLists) → AreIn names m → IfSome (repeat_among m.attrs m.items) (λ n. n < length names)

-- each run of a marked tree has a character
abbrev pub RunsAreSolid : Type 0
RunsAreSolid = (names : List (List ℕ)) (m : MarkedLists) (gs : Givens) → AreIn names m → StandsFor names m gs → AllByRecursion IsSolid (pieces gs)

-- what is written of an element's parts is what is written of their pieces
abbrev pub PiecesAreWritten : Type 0
PiecesAreWritten = (gs : Givens) → AllByRecursion IsSolid (pieces gs) → contents_bytes gs ≡ written false (pieces gs)

-- where one element is given and nothing beside it, the document is written of the pieces
abbrev pub DocumentIsWritten : Type 0
DocumentIsWritten =
    (gs : Givens) (state : State) → AllByRecursion IsSolid (pieces gs) → attributes gs ≡ [] → element_count gs ≡ 1 → character_count gs ≡ 0 →
    xml gs state ≡ document state (pieces gs)

-- all that the walk of a derivation names is there
abbrev pub WalkIsIn : Type 0
WalkIsIn =
    (plan : Parts) (d : FlatTree) (x : Sym) (i j : ℕ) → IsPlanned plan → IsThere plan.rules x → FlatDerives plan d x i j →
    AreStepsIn plan (walk plan.rules d x)

-- the names of the rules of a grammar with unique names are distinct
abbrev pub NamesAreDistinct : Type 0
NamesAreDistinct = (g : Grammar) (rules : Rules) → HasUniqueNames g → Expanded g rules → AreDistinct rules.names
