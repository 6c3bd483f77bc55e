-- What terms and factors are made of, one layer deep.
use Rattle.std.proofs.Common.{◌≡◌, ap, Option}
use Rattle.ix_model.specs.declared.grammar.Term.{One, Opt, Star, Plus}
use Rattle.ix_model.specs.declared.grammar.Factor.{Factor}
use Rattle.ix_model.specs.Documents.Bare.{factor_in, separator_in, factor_of, separator_of}
use Rattle.ix_model.proofs.Forms.{out_one, out_opt, out_star, out_plus}

pub factor_of_one : (f : Factor) → factor_of (One f) ≡ f
unfolding factor_of
factor_of_one f = ap factor_in (out_one f)

pub factor_of_opt : (f : Factor) → factor_of (Opt f) ≡ f
unfolding factor_of
factor_of_opt f = ap factor_in (out_opt f)

pub factor_of_star : (f : Factor) (sep : Option Factor) → factor_of (Star f sep) ≡ f
unfolding factor_of
factor_of_star f sep = ap factor_in (out_star f sep)

pub factor_of_plus : (f : Factor) (sep : Option Factor) → factor_of (Plus f sep) ≡ f
unfolding factor_of
factor_of_plus f sep = ap factor_in (out_plus f sep)

pub separator_of_star : (f : Factor) (sep : Option Factor) → separator_of (Star f sep) ≡ sep
unfolding separator_of
separator_of_star f sep = ap separator_in (out_star f sep)

pub separator_of_plus : (f : Factor) (sep : Option Factor) → separator_of (Plus f sep) ≡ sep
unfolding separator_of
separator_of_plus f sep = ap separator_in (out_plus f sep)
