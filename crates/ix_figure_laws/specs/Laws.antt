-- Laws of figures.
use Rattle.std.specs.Prelude.{◌≡◌, ℕ, List}
use Rattle.ix_model.specs.declared.counts.Counts.{Counts}
use Rattle.ix_model.specs.declared.grammar.Grammar.{Grammar}
use Rattle.ix_model.specs.Closure.Figures.{AreCounts, IsCounted}
use Rattle.ix_model.specs.Expansion.Parts.{Parts}
use Rattle.ix_model.specs.Expansion.Planned.{IsPlanned}

-- no plan has two figures
abbrev pub CountsAreOne : Type 0
CountsAreOne = (plan : Parts) (a b : Counts) → AreCounts plan a → AreCounts plan b → a ≡ b

-- no text has two figures under a grammar: plans of both that write the ranges of a set in other ways have the same
abbrev pub FiguresAreOne : Type 0
FiguresAreOne = (g : Grammar) (s : List ℕ) (p q : Parts) (a b : Counts) → IsCounted g s p a → IsCounted g s q b → a ≡ b

-- each plan has figures, in that it can't have none
abbrev pub FiguresAreThere : Type 0
FiguresAreThere = (plan : Parts) → IsPlanned plan → ¬ ((counts : Counts) → ¬ (AreCounts plan counts))
