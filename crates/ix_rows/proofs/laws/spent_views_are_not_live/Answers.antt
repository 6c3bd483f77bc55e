use Rattle.std.proofs.Common.{◌≡◌, true, false, refl, inl, inr, ⊎_elim, arith}
use Rattle.ix_rows.proofs.Counts.{some_none}
use Rattle.ix_rows.proofs.laws.spent_views_are_not_live.Goals as goal

pub returns-clause-root : goal.returns-clause-root
returns-clause-root c = (inl refl, (3, refl))

pub returns-clause-split : goal.returns-clause-split
returns-clause-split c = (inr refl, (3, refl))

pub returns-clause-spent : goal.returns-clause-spent
returns-clause-spent c = λ h. some_none h.1.0 h.1.1

pub returns-clause-holds_nothing : goal.returns-clause-holds_nothing
returns-clause-holds_nothing c = λ h. ⊎_elim (λ (is : false ≡ true). absurd (cc)) (λ (one : 0 ≡ 1). absurd (omega arith)) h

pub returns-clause-nameless : goal.returns-clause-nameless
returns-clause-nameless c = λ h. some_none h.1.0 h.1.1
