use Rattle.std.proofs.Common.{refl}
use Rattle.ix_worked_examples.proofs.documents.roots.Goals as goal

pub returns-clause-name : goal.returns-clause-name
unfolding lib.Utf8.encode
returns-clause-name c = refl
