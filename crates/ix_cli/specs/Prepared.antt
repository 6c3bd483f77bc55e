-- What a command comes to before any text is parsed.
-- Source: this project's own.
use Rattle.std.specs.Prelude.{◌≡◌, ◌≤◌, Option, take}
use Rattle.ix_model.specs.Answers.Answer.{HoldsConforming}
use Rattle.ix_model.specs.Answers.CommandLine.{Command, parse, check, sample}
use Rattle.ix_model.specs.Answers.Limits.{grammar_limit}
use Rattle.ix_model.specs.Answers.Outcome.{conforms}
use Rattle.ix_model.specs.Answers.Sample.{sample_grammar, sample_text}
use Rattle.ix_model.specs.Grammars.Breach.{Conforming}
use Rattle.ix_model.specs.Grammars.Size.{size}
use Rattle.ix_edge.specs.Told.{Told}
use Rattle.ix_cli.specs.declared.task.Prepared.{Prepared}
use Rattle.ix_cli.specs.declared.task.Prepared.TheVariants as prepared
use Rattle.ix_cli.specs.declared.task.Task.{Task}
use Rattle.ix_cli.specs.declared.task.Wanted.TheVariants.{Document, Figures}
use Rattle.ix_cli.specs.Contents.{IsWritable}
use Rattle.ix_cli.specs.Loaded.{Holds}
use Rattle.ix_cli.specs.Shown.{Shows}
use Rattle.ix_cli.specs.Unread.{HoldsSome}

-- `check` has its whole output, since the file holds a grammar. `parse` has the grammar and the text that its files hold, for a document;
-- of a text that is too long it has the front, with one byte more than a text may have. `sample` has a grammar and a text of its own, for
-- figures. Both have as many workers as the command asks for.
abbrev pub IsPreparedFor : Option Told → Command → Prepared → Type 0
IsPreparedFor told (parse grammar text workers) (prepared.Parse task) =
    Holds told grammar (λ bytes. HoldsConforming bytes task.grammar) × Holds told text (λ bytes. task.text.items ≡ take 16777217 bytes) × (task.workers ≡ workers) × (task.wanted ≡ Document)
IsPreparedFor told (check grammar) (prepared.Output output) = HoldsSome told grammar × Shows conforms output
IsPreparedFor told (sample lines workers) (prepared.Parse task) =
    HoldsConforming sample_grammar task.grammar × (task.text.items ≡ sample_text lines) × (task.workers ≡ workers) × (task.wanted ≡ Figures)
IsPreparedFor told _ _ = ⊥

-- what a parse asks for is there: a conforming grammar within its limit, and 1 to 64 workers
pub record IsReady (task : Task) : Type 0 where
  pub conforming : Conforming task.grammar
  pub small : size task.grammar ≤ grammar_limit
  pub least : 1 ≤ task.workers
  pub most : task.workers ≤ 64

-- what the next step asks for is there: what a write does of an output, and what a parse does of a text
abbrev pub IsReadied : Prepared → Type 0
IsReadied (prepared.Output output) = IsWritable output.content
IsReadied (prepared.Parse task) = IsReady task
