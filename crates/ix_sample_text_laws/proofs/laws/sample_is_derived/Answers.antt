use Rattle.ix_sample_text_laws.proofs.Deriving.{sample_derived}
use Rattle.ix_sample_text_laws.proofs.laws.sample_is_derived.Goals as goal

pub returns : goal.returns
returns c = sample_derived
