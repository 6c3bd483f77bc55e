use Rattle.std.proofs.Common.{refl}
use Rattle.clap.proofs.OnLiterals.{clap_on_literals}
use Rattle.ix_words.proofs.laws.words_as_clap_reads_them.Goals as goal

pub returns-clause-parse : goal.returns-clause-parse
unfolding clap_on_literals
returns-clause-parse c = refl

pub returns-clause-check : goal.returns-clause-check
unfolding clap_on_literals
returns-clause-check c = refl

pub returns-clause-sample : goal.returns-clause-sample
unfolding clap_on_literals
returns-clause-sample c = refl

pub returns-clause-hyphen : goal.returns-clause-hyphen
unfolding clap_on_literals
returns-clause-hyphen c = refl
