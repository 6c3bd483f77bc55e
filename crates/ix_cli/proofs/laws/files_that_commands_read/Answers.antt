use Rattle.std.proofs.Common.{refl, ap, arith}
use Rattle.ix_examples.proofs.SmallTexts.{first}
use Rattle.ix_cli.proofs.laws.files_that_commands_read.Goals as goal

pub returns-clause-grammar : goal.returns-clause-grammar
returns-clause-grammar c = refl

pub returns-clause-not_text : goal.returns-clause-not_text
returns-clause-not_text c e = omega (arith, ap first e)

pub returns-clause-checked : goal.returns-clause-checked
returns-clause-checked c = refl

pub returns-clause-not_checked : goal.returns-clause-not_checked
returns-clause-not_checked c e = omega (arith, ap first e)

pub returns-clause-no_grammar : goal.returns-clause-no_grammar
returns-clause-no_grammar c name h = h

pub returns-clause-text : goal.returns-clause-text
returns-clause-text c = refl

pub returns-clause-not_grammar : goal.returns-clause-not_grammar
returns-clause-not_grammar c e = omega (arith, ap first e)

pub returns-clause-no_checked_text : goal.returns-clause-no_checked_text
returns-clause-no_checked_text c name h = h

pub returns-clause-no_text : goal.returns-clause-no_text
returns-clause-no_text c name h = h
