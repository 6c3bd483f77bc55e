use Rattle.std.proofs.Common.{refl, codes}
use mathlib.Core.Logic.{inl}
use Rattle.ix_model.specs.Answers.Outcome.{failed}
use Rattle.ix_examples.specs.SmallAnswers.{one_way}
use Rattle.ix_cli.specs.Examples.{holding}
use Rattle.ix_answer_laws.proofs.Commands.{no_words}
use Rattle.ix_cli.proofs.SmallReplies.{no_grammar_here, no_grammar_alone, nothing_without_text, the_failure, no_words_reply}
use Rattle.ix_cli.proofs.laws.words_and_grammars.Goals as goal

pub returns-clause-no_grammar : goal.returns-clause-no_grammar
returns-clause-no_grammar c = no_grammar_here _

pub returns-clause-before_text : goal.returns-clause-before_text
returns-clause-before_text c = no_grammar_alone

pub returns-clause-no_text : goal.returns-clause-no_text
returns-clause-no_text c = nothing_without_text

pub returns-clause-no_words : goal.returns-clause-no_words
returns-clause-no_words c = inl (no_words, refl)

pub returns-clause-not_answered : goal.returns-clause-not_answered
returns-clause-not_answered c h = absurd (cc (no_words_reply (failed 1 1 2) (holding one_way (codes "ab")) h))

pub returns-clause-has_words : goal.returns-clause-has_words
returns-clause-has_words c h = absurd (cc (the_failure _ h))
