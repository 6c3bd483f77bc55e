use Rattle.ix_sample_laws.proofs.SampleConforms.{sample_conforms}
use Rattle.ix_sample_laws.proofs.laws.sample_conforms.Goals as goal

pub returns : goal.returns
returns c = sample_conforms
