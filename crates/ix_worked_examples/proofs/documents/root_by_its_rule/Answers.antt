use Rattle.std.proofs.Common.{refl}
use Rattle.ix_model.proofs.Forming.{factor_of_one}
use Rattle.ix_model.proofs.Forms.{out_lit, out_call}
use Rattle.ix_worked_examples.proofs.documents.root_by_its_rule.Goals as goal

pub returns-clause-hidden : goal.returns-clause-hidden
unfolding lib.Utf8.encode
returns-clause-hidden c = simp (factor_of_one, out_lit, out_call) refl

pub returns-clause-attribute : goal.returns-clause-attribute
returns-clause-attribute c = simp (factor_of_one, out_lit) refl

pub returns-clause-element : goal.returns-clause-element
unfolding lib.Utf8.encode
returns-clause-element c = simp (factor_of_one, out_lit, out_call) refl
