use Rattle.std.proofs.Common.{[], ◌∷◌, refl, ap}
use Rattle.ix_closure.specs.declared.owed.Owed.TheVariants.{Claim, End}
use Rattle.ix_table.specs.Sights.{Sight}
use Rattle.ix_settled_laws.specs.Examples.{claimer}
use Rattle.ix_settled_laws.proofs.SmallWork.{only_work}
use Rattle.ix_settled_laws.proofs.laws.work_has_its_parts.Goals as goal

pub returns-clause-whole : goal.returns-clause-whole
returns-clause-whole c = only_work

pub returns-clause-claims_twice : goal.returns-clause-claims_twice
returns-clause-claims_twice c = λ plan first done root banks w. let e = w.nothing 0 _ refl in absurd (cc e)

pub returns-clause-split_later : goal.returns-clause-split_later
returns-clause-split_later c = λ done root banks w. let e = ap (λ (s : Sight). s.own) (w.sights 0 (claimer (Claim 0 0 0 ∷ [])) refl) in absurd (cc e)

pub returns-clause-owes : goal.returns-clause-owes
returns-clause-owes c = λ plan jobs root banks w. let e = w.empty 0 (claimer (End 0 0 0 ∷ [])) refl in absurd (cc e)
