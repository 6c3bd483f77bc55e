use Rattle.std.proofs.Common.{refl}
use Rattle.ix_model.specs.Answers.CommandLine.{sample}
use Rattle.ix_cli.proofs.SmallSamples.{of_no_grammar, never_undecodable, never_too_long}
use Rattle.ix_cli.proofs.SmallWords.{samples_1}
use Rattle.ix_cli.proofs.laws.statuses_of_a_sample.Goals as goal

pub returns-clause-never_without_form : goal.returns-clause-never_without_form
returns-clause-never_without_form c files h = h.no_form.0 refl (sample 1 2) samples_1

pub returns-clause-never_no_grammar : goal.returns-clause-never_no_grammar
returns-clause-never_no_grammar c files h = of_no_grammar files _ (h.no_grammar.0 refl)

pub returns-clause-never_not_utf8 : goal.returns-clause-never_not_utf8
returns-clause-never_not_utf8 c files h = never_undecodable files (h.not_utf8.0 refl)

pub returns-clause-never_too_long : goal.returns-clause-never_too_long
returns-clause-never_too_long c files h = never_too_long files (h.too_long.0 refl)
