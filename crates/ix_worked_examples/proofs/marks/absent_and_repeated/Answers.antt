use Rattle.std.proofs.Common.{refl}
use Rattle.ix_model.proofs.Forming.{factor_of_one, factor_of_opt, factor_of_star, factor_of_plus, separator_of_star, separator_of_plus}
use Rattle.ix_model.proofs.Forms.{out_lit, out_set, out_call, out_insert}
use Rattle.ix_worked_examples.proofs.marks.absent_and_repeated.Goals as goal

pub returns-clause-bare : goal.returns-clause-bare
returns-clause-bare c = simp (factor_of_one, factor_of_opt, factor_of_star, factor_of_plus, separator_of_star, separator_of_plus, out_lit, out_set, out_call, out_insert) refl

pub returns-clause-bytes : goal.returns-clause-bytes
unfolding lib.Utf8.encode
returns-clause-bytes c = simp (factor_of_one, factor_of_opt, factor_of_star, factor_of_plus, separator_of_star, separator_of_plus, out_lit, out_set, out_call, out_insert) refl
