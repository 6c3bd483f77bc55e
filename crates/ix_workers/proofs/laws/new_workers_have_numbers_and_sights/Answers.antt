use Rattle.std.proofs.Common.{length, refl, ap, sym, subst, [], ◌∙◌, arith}
use Rattle.ix_examples.specs.SmallPlans.{nothing}
use Rattle.ix_settled_laws.specs.Owing.{OwesClosed}
use Rattle.ix_settled_laws.proofs.Small.{claim_owed}
use Rattle.ix_table.specs.Sights.{Sight}
use Rattle.ix_workers.proofs.laws.new_workers_have_numbers_and_sights.Goals as goal

pub returns-clause-first : goal.returns-clause-first
returns-clause-first c = λ table w fits sight number owed. record {
  number = number;
  fits = fits;
  sight = sight;
  list = record { first = λ e. owed; other = λ h. absurd (omega (arith, h)) };
  closed = subst (OwesClosed (nothing [])) (sym owed) claim_owed;
}

pub returns-clause-other : goal.returns-clause-other
returns-clause-other c = λ plan table w fits sight number owed. record {
  number = number;
  fits = fits;
  sight = sight;
  list = record { first = λ e. absurd (omega (arith, e)); other = λ h. owed };
  closed = subst (OwesClosed plan) (sym owed) (λ step h. absurd (omega (arith, h.1)));
}

pub returns-clause-number : goal.returns-clause-number
returns-clause-number c = λ plan table w zero one. let a = zero.number in let b = one.number in omega arith

pub returns-clause-sight : goal.returns-clause-sight
returns-clause-sight c = λ plan table w own new. let none = ap (λ (s : Sight). length s.own) new.sight in let one = ap length own in omega arith

pub returns-clause-list : goal.returns-clause-list
returns-clause-list c = λ table w owed new. let e = ap length (sym owed ∙ new.list.first refl) in omega (arith, e)

pub returns-clause-of_another_table : goal.returns-clause-of_another_table
returns-clause-of_another_table c = λ plan table w other new. other new.fits
