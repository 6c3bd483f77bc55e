use Rattle.std.proofs.Common.{◌≡◌, ℕ, List, length, arith, refl}
use Rattle.ix_model.specs.Answers.Outcome.{Outcome, grammar_too_long, grammar_not_utf8, no_grammar, too_deep, not_conforming}
use Rattle.ix_model.specs.Answers.Answer.{GrammarRefused}
use Rattle.ix_worked_examples.proofs.outcomes.long_grammars.Goals as goal

only_long : (bytes : List ℕ) (outcome : Outcome) → length bytes ≡ 1048577 → GrammarRefused bytes outcome → outcome ≡ grammar_too_long
only_long bytes grammar_too_long e h = refl
only_long bytes (grammar_not_utf8 valid) e h = absurd (omega (arith, e, h.0))
only_long bytes no_grammar e h = absurd (omega (arith, e, h.0.0))
only_long bytes too_deep e h = absurd (omega (arith, e, h.0.0))
only_long bytes (not_conforming fault) e h = absurd (omega (arith, e, h.1.0.0))
only_long bytes outcome e h = absurd h

pub returns-clause-too_long : goal.returns-clause-too_long
returns-clause-too_long c = λ bytes e. omega (arith, e)

pub returns-clause-not_too_long : goal.returns-clause-not_too_long
returns-clause-not_too_long c = λ bytes e h. omega (arith, e, h)

pub returns-clause-nothing_else : goal.returns-clause-nothing_else
returns-clause-nothing_else c = only_long

pub returns-clause-looked_at : goal.returns-clause-looked_at
returns-clause-looked_at c = λ bytes e u none. ((omega (arith, e), u), none)

pub returns-clause-not_looked_at : goal.returns-clause-not_looked_at
returns-clause-not_looked_at c = λ bytes g e h. omega (arith, e, h.0.0)
