use Rattle.ix_sample_text_laws.proofs.Documents.{sample_document}
use Rattle.ix_sample_text_laws.proofs.laws.sample_gives_document.Goals as goal

pub returns : goal.returns
returns c = sample_document
