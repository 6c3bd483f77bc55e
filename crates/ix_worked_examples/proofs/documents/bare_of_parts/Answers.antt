use Rattle.std.proofs.Common.{refl}
use Rattle.ix_model.proofs.Forming.{factor_of_one, factor_of_opt, factor_of_plus, separator_of_plus}
use Rattle.ix_model.proofs.Forms.{out_lit, out_group}
use Rattle.ix_worked_examples.proofs.documents.bare_of_parts.Goals as goal

pub returns-clause-bare : goal.returns-clause-bare
returns-clause-bare c = simp (factor_of_one, factor_of_opt, factor_of_plus, separator_of_plus, out_lit, out_group) refl

pub returns-clause-gives : goal.returns-clause-gives
returns-clause-gives c = simp (factor_of_one, factor_of_opt, factor_of_plus, separator_of_plus, out_lit, out_group) refl
