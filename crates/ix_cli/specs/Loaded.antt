-- What was loaded from a file, and why it was not.
-- Source: this project's own.
use Rattle.std.specs.Prelude.{◌≡◌, ◌≢◌, ℕ, List, Option, Some, IfSome, string_bytes}
use Rattle.ix_edge.specs.Causes.{Rose}
use Rattle.ix_edge.specs.Told.{Told, held}
use Rattle.ix_engine.specs.declared.refusal.Refusal.TheVariants as refusal
use Rattle.ix_model.specs.Answers.Answer.{GrammarRefused}
use Rattle.ix_engine.specs.Compiled.{outcome_of}
use Rattle.ix_cli.specs.declared.answer.Answer.{Answer}
use Rattle.ix_cli.specs.declared.answer.Answer.TheVariants as answer

-- where the files tell it, the name holds bytes of which this is true
abbrev pub Holds : Option Told → List ℕ → (List ℕ → Type 0) → Type 0
Holds told name P = IfSome told (λ files. (bytes : List ℕ) × (held files name ≡ Some bytes) × P bytes)

-- Memory ran out, or the answer names the file and the count of its name rose.
abbrev pub IsLoadFault : (List ℕ → ℕ) → (List ℕ → ℕ) → List ℕ → Answer → Type 0
IsLoadFault old new name answer.Memory = Unit {0}
IsLoadFault old new name (answer.Read file) = (string_bytes file ≡ name) × Rose (old name) (new name)
IsLoadFault old new name _ = ⊥

-- The same; or the name holds bytes that are refused as a grammar.
abbrev pub IsGrammarFault : Option Told → (List ℕ → ℕ) → (List ℕ → ℕ) → List ℕ → Answer → Type 0
IsGrammarFault told old new name answer.Memory = Unit {0}
IsGrammarFault told old new name (answer.Read file) = (string_bytes file ≡ name) × Rose (old name) (new name)
IsGrammarFault told old new name (answer.Grammar r) = (r ≢ refusal.Memory) × Holds told name (λ bytes. GrammarRefused bytes (outcome_of r))
IsGrammarFault told old new name _ = ⊥
