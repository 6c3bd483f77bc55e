use Rattle.ix_sample.proofs.TextForm.{text_decoded}
use Rattle.ix_sample.proofs.laws.text_is_decoded.Goals as goal

pub returns : goal.returns
returns c = text_decoded
