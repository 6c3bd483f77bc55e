use Rattle.std.proofs.Common.{[], refl}
use mathlib.Core.Logic.{inl, inr}
use Rattle.ix_worked_examples.proofs.SmallAnswers.{parses_g_t}
use Rattle.ix_answer_laws.proofs.Commands.{no_words}
use Rattle.ix_cli.proofs.SmallReplies.{parsing, nothing_refused, text_of_no_characters, the_failure}
use Rattle.ix_cli.proofs.laws.answers_that_are_refused.Goals as goal

pub returns-clause-words : goal.returns-clause-words
returns-clause-words c = no_words

pub returns-clause-not_words : goal.returns-clause-not_words
returns-clause-not_words c h = h parsing parses_g_t

pub returns-clause-grammar : goal.returns-clause-grammar
returns-clause-grammar c = (parsing, parses_g_t, ((λ e. cc e), ([], refl, inl nothing_refused)))

pub returns-clause-not_grammar : goal.returns-clause-not_grammar
returns-clause-not_grammar c (command, is, (n, h)) = absurd (cc (the_failure _ (inr (command, is, h))))

pub returns-clause-text : goal.returns-clause-text
returns-clause-text c = (parsing, parses_g_t, ((λ e. cc e), text_of_no_characters))

pub returns-clause-not_text : goal.returns-clause-not_text
returns-clause-not_text c (command, is, (n, h)) = absurd (cc (the_failure _ (inr (command, is, h))))

pub returns-clause-memory : goal.returns-clause-memory
returns-clause-memory c = tt

pub returns-clause-write : goal.returns-clause-write
returns-clause-write c (command, is, h) = h
