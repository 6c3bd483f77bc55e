-- What the bytes of a file are as a grammar, and why they are none.
use Rattle.std.specs.Prelude.{ℕ, List}
use Rattle.ix_model.specs.Answers.Answer.{GrammarRefused}
use Rattle.ix_model.specs.Grammars.Breach.{version, code_point, range, class, undefined, duplicate}
use Rattle.ix_model.specs.Answers.Outcome.{Outcome, no_form, grammar_too_long, grammar_not_utf8, no_grammar, too_deep, not_conforming}
use Rattle.ix_engine.specs.declared.refusal.Refusal.{Refusal}
use Rattle.ix_engine.specs.declared.refusal.Refusal.TheVariants as refusal

-- what comes of a refused grammar; want of memory is no outcome of the table
abbrev pub outcome_of : Refusal → Outcome
outcome_of refusal.FileTooLong = grammar_too_long
outcome_of (refusal.NotUtf8 valid) = grammar_not_utf8 valid
outcome_of refusal.NotIxml = no_grammar
outcome_of refusal.TooDeep = too_deep
outcome_of (refusal.Version text) = not_conforming (version text)
outcome_of (refusal.CodePoint digits) = not_conforming (code_point digits)
outcome_of (refusal.Range low high) = not_conforming (range low high)
outcome_of (refusal.Class name) = not_conforming (class name)
outcome_of (refusal.Undefined name) = not_conforming (undefined name)
outcome_of (refusal.Duplicate name) = not_conforming (duplicate name)
outcome_of refusal.Memory = no_form

-- the refusal applies, and none before it does; memory may run out
abbrev pub IsRefusalOf : List ℕ → Refusal → Type 0
IsRefusalOf bytes refusal.Memory = Unit {0}
IsRefusalOf bytes r = GrammarRefused bytes (outcome_of r)
