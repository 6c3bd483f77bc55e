use Rattle.std.proofs.Common.{◌≡◌, refl, sym, ◌∙◌, ap, get_or, zero, suc, [], ◌∷◌, Some, codes, arith}
use Rattle.std.specs.Prelude.{unwrap_or}
use Rattle.ix_errors.specs.Firsts.{NoneRepeatedBelow}
use Rattle.ix_errors.proofs.laws.last_of_three_is_repeated.Goals as goal

none_below : NoneRepeatedBelow (codes "S" ∷ codes "b" ∷ codes "S" ∷ []) 2
none_below zero other l h = omega (arith, h.2)
none_below (suc zero) other l (here, zero, m, there) =
    let e : Some (codes "b") ≡ Some (codes "S") = here ∙ sym there in
    omega (arith, ap (λ o. get_or (unwrap_or o []) 0 0) e)
none_below (suc zero) other l (here, suc q, m, there) = omega (arith, m)
none_below (suc (suc p)) other l h = omega (arith, l)

pub returns-clause-found : goal.returns-clause-found
returns-clause-found c = (2, (refl, 0, omega arith, refl), none_below)

pub returns-clause-not_none : goal.returns-clause-not_none
returns-clause-not_none c = λ h. h 2 (codes "S") (refl, 0, omega arith, refl)
