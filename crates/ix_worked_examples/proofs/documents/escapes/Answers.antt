use Rattle.std.proofs.Common.{refl}
use Rattle.ix_worked_examples.proofs.documents.escapes.Goals as goal

pub returns-clause-content : goal.returns-clause-content
unfolding lib.Utf8.encode
returns-clause-content c = refl

pub returns-clause-val : goal.returns-clause-val
unfolding lib.Utf8.encode
returns-clause-val c = refl
