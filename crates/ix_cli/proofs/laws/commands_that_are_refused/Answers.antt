use Rattle.std.proofs.Common.{◌≡◌, refl, [], ◌∷◌}
use mathlib.Core.Logic.{inl}
use Rattle.ix_model.specs.Answers.Outcome.{no_grammar, conforms, text_not_utf8}
use Rattle.ix_engine.specs.declared.refusal.Refusal.TheVariants as refusal
use Rattle.ix_edge.specs.Told.{held}
use Rattle.ix_examples.specs.SmallAnswers.{one_way}
use Rattle.ix_answer_laws.proofs.OneAnswer.{command_answered_once}
use Rattle.ix_cli.specs.Examples.{holding}
use Rattle.ix_cli.proofs.SmallChecks.{checking, one_way_checked}
use Rattle.ix_cli.proofs.SmallReplies.{parsing, nothing_refused, text_of_no_characters}
use Rattle.ix_cli.proofs.laws.commands_that_are_refused.Goals as goal

pub returns-clause-grammar : goal.returns-clause-grammar
returns-clause-grammar c = ((λ e. cc e), ([], refl, inl nothing_refused))

pub returns-clause-not_grammar : goal.returns-clause-not_grammar
returns-clause-not_grammar c (n, h) = let e : conforms ≡ no_grammar = command_answered_once (held (holding one_way [])) checking _ _ (one_way_checked []) h in absurd (cc e)

pub returns-clause-text : goal.returns-clause-text
returns-clause-text c = ((λ e. cc e), text_of_no_characters)

pub returns-clause-shorter : goal.returns-clause-shorter
returns-clause-shorter c (n, h) = let e : text_not_utf8 1 ≡ text_not_utf8 0 = command_answered_once (held (holding one_way (97 ∷ 195 ∷ []))) parsing _ _ text_of_no_characters h in absurd (cc e)

pub returns-clause-not_checked : goal.returns-clause-not_checked
returns-clause-not_checked c (n, h) = let e : conforms ≡ text_not_utf8 1 = command_answered_once (held (holding one_way (97 ∷ 195 ∷ []))) checking _ _ (one_way_checked (97 ∷ 195 ∷ [])) h in absurd (cc e)

pub returns-clause-sample : goal.returns-clause-sample
returns-clause-sample c refusal.Memory (n, h) = n refl
returns-clause-sample c r (n, h) = h.2.1

pub returns-clause-untold : goal.returns-clause-untold
returns-clause-untold c = ((λ e. cc e), tt)

pub returns-clause-no_words : goal.returns-clause-no_words
returns-clause-no_words c h = h

pub returns-clause-write : goal.returns-clause-write
returns-clause-write c h = h
