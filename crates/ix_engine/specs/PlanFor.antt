-- The plan of a grammar for the bytes of a text. It is this project's own.
use Rattle.std.specs.Prelude.{◌≡◌, ℕ, List}
use Rattle.ix_model.specs.declared.grammar.Grammar.{Grammar}
use Rattle.ix_model.specs.Answers.Answer.{IsText}
use Rattle.ix_model.specs.Answers.Decoding.{decoded}
use Rattle.ix_model.specs.Answers.Limits.{text_limit}
use Rattle.ix_model.specs.Expansion.Parts.{Parts}
use Rattle.ix_model.specs.Expansion.Planned.{IsPlanOf}

-- the bytes are a text, and the plan is the grammar's for its characters
pub record IsPlanFor (g : Grammar) (bytes : List ℕ) (plan : Parts) : Type 0 where
  pub bytes_are : IsText text_limit bytes
  pub text : plan.text ≡ decoded bytes
  pub plan_of : IsPlanOf g plan
