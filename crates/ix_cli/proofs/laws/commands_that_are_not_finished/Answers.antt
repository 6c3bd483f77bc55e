use Rattle.std.proofs.Common.{◌≡◌, sym, ap, ◌∙◌, refl, codes, arith}
use Rattle.ix_examples.proofs.SmallTexts.{first}
use Rattle.ix_cli.proofs.laws.commands_that_are_not_finished.Goals as goal

pub returns-clause-memory : goal.returns-clause-memory
returns-clause-memory c = tt

pub returns-clause-not_grammar : goal.returns-clause-not_grammar
returns-clause-not_grammar c (n, h) = n refl

pub returns-clause-not_text : goal.returns-clause-not_text
returns-clause-not_text c (n, h) = n refl

pub returns-clause-file : goal.returns-clause-file
returns-clause-file c name e = (simp e (omega arith), e)

pub returns-clause-not_raised : goal.returns-clause-not_raised
returns-clause-not_raised c name (rose, next) = omega (arith, rose)

pub returns-clause-not_next : goal.returns-clause-not_next
returns-clause-not_next c name e (rose, next) = let f : codes "t" ≡ codes "g" = sym e ∙ next in omega (arith, ap first f)

pub returns-clause-no_file : goal.returns-clause-no_file
returns-clause-no_file c name (rose, next) = next
