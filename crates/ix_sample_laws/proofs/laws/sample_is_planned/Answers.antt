use Rattle.ix_sample_laws.proofs.SamplePlanned.{sample_planned}
use Rattle.ix_sample_laws.proofs.laws.sample_is_planned.Goals as goal

pub returns : goal.returns
returns c = sample_planned
