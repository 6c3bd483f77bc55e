use Rattle.std.proofs.Common.{codes}
use Rattle.ix_model.specs.Answers.CommandLine.{parse, check, sample}
use Rattle.ix_worked_examples.proofs.SmallAnswers.{checks_g, parses_g_t}
use Rattle.ix_answer_laws.proofs.Commands.{no_words}
use Rattle.ix_cli.proofs.SmallWords.{samples_1, one_name_none}
use Rattle.ix_cli.proofs.laws.words_with_a_command.Goals as goal

pub returns-clause-parse : goal.returns-clause-parse
returns-clause-parse c = (parse (codes "g") (codes "t") 2, parses_g_t)

pub returns-clause-check : goal.returns-clause-check
returns-clause-check c = (check (codes "g"), checks_g)

pub returns-clause-sample : goal.returns-clause-sample
returns-clause-sample c = (sample 1 2, samples_1)

pub returns-clause-no_words : goal.returns-clause-no_words
returns-clause-no_words c (command, is) = no_words command is

pub returns-clause-one_name : goal.returns-clause-one_name
returns-clause-one_name c = one_name_none
