use Rattle.std.proofs.Common.{refl, arith}
use Rattle.ix_cli.proofs.laws.results_of_a_sample.Goals as goal

pub returns-clause-figures : goal.returns-clause-figures
returns-clause-figures c v = refl

pub returns-clause-not_failed : goal.returns-clause-not_failed
returns-clause-not_failed c v e = omega (arith, e)

pub returns-clause-memory : goal.returns-clause-memory
returns-clause-memory c = refl

pub returns-clause-no_words : goal.returns-clause-no_words
returns-clause-no_words c e = absurd (cc e)

pub returns-clause-not_refused : goal.returns-clause-not_refused
returns-clause-not_refused c r e = absurd (cc e)
