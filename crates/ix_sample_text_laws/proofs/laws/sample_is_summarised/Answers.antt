use Rattle.ix_sample_text_laws.proofs.Summarised.{sample_summarised}
use Rattle.ix_sample_text_laws.proofs.laws.sample_is_summarised.Goals as goal

pub returns : goal.returns
returns c = sample_summarised
