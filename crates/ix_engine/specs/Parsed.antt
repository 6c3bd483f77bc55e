-- What comes of a text under a conforming grammar, as the values that are answered for it.
use Rattle.std.specs.Prelude.{ℕ, List}
use Rattle.ix_model.specs.declared.grammar.Grammar.{Grammar}
use Rattle.ix_model.specs.Answers.Answer.{TextAnswered}
use Rattle.ix_model.specs.Answers.Decoding.{decoded}
use Rattle.ix_model.specs.Answers.Outcome.{failed, document}
use Rattle.ix_model.specs.Closure.Figures.{IsCounted}
use Rattle.ix_model.specs.Documents.Gives.{Givens}
use Rattle.ix_model.specs.Expansion.Parts.{Parts}
use Rattle.ix_marks.specs.InRange.{AreIn}
use Rattle.ix_marks.specs.Standing.{StandsFor}
use Rattle.ix_engine.specs.Answers.{fault_outcome}
use Rattle.ix_engine.specs.declared.outcome.Outcome.{Outcome}
use Rattle.ix_engine.specs.declared.outcome.Outcome.TheVariants as outcome
use Rattle.ix_engine.specs.declared.outcome.ParseFault.{ParseFault}
use Rattle.ix_engine.specs.declared.outcome.ParseFault.TheVariants as fault

module _ (g : Grammar) (bytes : List ℕ) where
  -- the outcome is the table's for these bytes: a marked tree stands for the document, and names what is there
  abbrev pub IsOutcome : Outcome → Type 0
  IsOutcome (outcome.Tree plan marked state counts) =
      (gs : Givens) × TextAnswered g bytes (document gs state) × StandsFor plan.rules.names marked gs × AreIn plan.rules.names marked
      × IsCounted g (decoded bytes) plan counts
  IsOutcome (outcome.Failed offset line column counts) =
      TextAnswered g bytes (failed offset line column) × (plan : Parts) × IsCounted g (decoded bytes) plan counts

  -- the fault is the table's for these bytes; memory may run out
  abbrev pub IsFault : ParseFault → Type 0
  IsFault fault.Memory = Unit {0}
  IsFault e = TextAnswered g bytes (fault_outcome e)
