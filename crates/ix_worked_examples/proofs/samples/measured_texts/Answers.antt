use Rattle.std.proofs.Common.{◌≡◌, refl, ◌∷◌, codes, arith}
use Rattle.std.specs.Str.{chars}
use Rattle.ix_model.specs.declared.state.State.TheVariants.{Single}
use Rattle.ix_model.specs.Answers.Outcome.{failed, summarised}
use Rattle.ix_examples.specs.SmallGrammars.{only_a}
use Rattle.ix_examples.specs.SmallRules.{a_plan}
use Rattle.ix_answer_laws.proofs.OneAnswer.{measured_once}
use Rattle.ix_worked_examples.proofs.SmallAnswers.{a_parsed, ab_failed}
use Rattle.ix_worked_examples.proofs.samples.measured_texts.Goals as goal

pub returns-clause-figures : goal.returns-clause-figures
unfolding chars lib.Utf8.encode
returns-clause-figures c = λ counts h. (_, Single, ((omega arith, (codes "a", (refl, refl))), a_parsed), a_plan (codes "a"), h, refl, refl)

pub returns-clause-behind_mark : goal.returns-clause-behind_mark
unfolding chars lib.Utf8.encode
returns-clause-behind_mark c = λ counts h. (_, Single, ((omega arith, (0xFEFF ∷ codes "a", (refl, refl))), a_parsed), a_plan (codes "a"), h, refl, refl)

pub returns-clause-other_text : goal.returns-clause-other_text
returns-clause-other_text c = λ counts h. omega (arith, h.5)

pub returns-clause-other_output : goal.returns-clause-other_output
unfolding chars lib.Utf8.encode
returns-clause-other_output c = λ counts h.
    let same : summarised 1 counts 10 ≡ summarised 1 counts 9 =
    measured_once only_a (codes "a") _ _ h (_, Single, ((omega arith, (codes "a", (refl, refl))), a_parsed), h.3, h.4, refl, refl) in
    cc same

pub returns-clause-no_document : goal.returns-clause-no_document
returns-clause-no_document c = λ g bytes gs state h. h

pub returns-clause-failed : goal.returns-clause-failed
unfolding chars lib.Utf8.encode
returns-clause-failed c = ((omega arith, (codes "ab", (refl, refl))), ab_failed)

pub returns-clause-no_figures : goal.returns-clause-no_figures
unfolding chars lib.Utf8.encode
returns-clause-no_figures c = λ text output counts h.
    let same : failed 1 1 2 ≡ summarised text counts output = measured_once only_a (codes "ab") _ _ ((omega arith, (codes "ab", (refl, refl))), ab_failed) h in
    cc same

pub returns-clause-too_long : goal.returns-clause-too_long
returns-clause-too_long c = λ g bytes e. omega (arith, e)

pub returns-clause-not_too_long : goal.returns-clause-not_too_long
returns-clause-not_too_long c = λ g bytes e h. omega (arith, e, h)
