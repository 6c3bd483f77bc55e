use Rattle.std.proofs.Common.{refl}
use Rattle.ix_examples.specs.SmallAnswers.{one_way}
use Rattle.ix_cli.proofs.laws.files_that_hold.Goals as goal

pub returns-clause-held : goal.returns-clause-held
returns-clause-held c = (one_way, refl, refl)

pub returns-clause-not_other : goal.returns-clause-not_other
returns-clause-not_other c (bytes, e, f) = absurd (cc (e, f))

pub returns-clause-not_there : goal.returns-clause-not_there
returns-clause-not_there c (bytes, e, f) = absurd (cc e)
