use Rattle.std.proofs.Common.{refl}
use Rattle.clap.proofs.OnLiterals.{clap_on_literals}
use Rattle.ix_words.proofs.laws.words_that_clap_refuses.Goals as goal

pub returns-clause-none : goal.returns-clause-none
unfolding clap_on_literals
returns-clause-none c = refl

pub returns-clause-help : goal.returns-clause-help
unfolding clap_on_literals
returns-clause-help c = refl

pub returns-clause-short_help : goal.returns-clause-short_help
unfolding clap_on_literals
returns-clause-short_help c = refl

pub returns-clause-help_first : goal.returns-clause-help_first
unfolding clap_on_literals
returns-clause-help_first c = refl

pub returns-clause-longer : goal.returns-clause-longer
unfolding clap_on_literals
returns-clause-longer c = refl

pub returns-clause-no_value : goal.returns-clause-no_value
unfolding clap_on_literals
returns-clause-no_value c = refl
