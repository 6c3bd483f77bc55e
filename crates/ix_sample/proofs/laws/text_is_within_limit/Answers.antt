use Rattle.ix_sample.proofs.TextForm.{within_limit}
use Rattle.ix_sample.proofs.laws.text_is_within_limit.Goals as goal

pub returns : goal.returns
returns c = within_limit
