use Rattle.ix_sample.proofs.TextForm.{text_utf8}
use Rattle.ix_sample.proofs.laws.text_is_utf8.Goals as goal

pub returns : goal.returns
returns c = text_utf8
