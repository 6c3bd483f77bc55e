-- The characters that steps bring: shown text and insertions, whatever the marks around them.
use Rattle.std.specs.Prelude.{ℕ, List, []}
use Rattle.std.specs.List.{flat_map}
use Rattle.ix_model.specs.declared.rules.Rules.{Rules}
use Rattle.ix_model.specs.declared.step.Step.{Step}
use Rattle.ix_model.specs.declared.step.Step.TheVariants as step
use Rattle.ix_model.specs.Documents.Gives.{shown_text}
use Rattle.ix_model.specs.Expansion.Numbered.{insert_at}

module _ (rules : Rules) (s : List ℕ) where
  abbrev pub characters_of : Step → List ℕ
  characters_of (step.Enter name mark) = []
  characters_of step.Leave = []
  characters_of (step.Text low high shown) = shown_text s shown low high
  characters_of (step.Insert insert) = insert_at rules insert

  abbrev pub shown_by_all : List Step → List ℕ
  shown_by_all steps = flat_map characters_of steps
