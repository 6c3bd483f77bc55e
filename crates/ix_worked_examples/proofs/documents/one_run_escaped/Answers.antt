use Rattle.std.proofs.Common.{refl}
use Rattle.ix_model.proofs.Forming.{factor_of_one}
use Rattle.ix_model.proofs.Forms.{out_lit, out_insert}
use Rattle.ix_worked_examples.proofs.documents.one_run_escaped.Goals as goal

pub returns-clause-gives : goal.returns-clause-gives
returns-clause-gives c = simp (factor_of_one, out_lit, out_insert) refl

pub returns-clause-bytes : goal.returns-clause-bytes
unfolding lib.Utf8.encode
returns-clause-bytes c = simp (factor_of_one, out_lit, out_insert) refl
