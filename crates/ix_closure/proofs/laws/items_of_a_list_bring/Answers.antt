use Rattle.std.proofs.Common.{◌≡◌, [], ◌∷◌, Some, slice_get, refl, sym, ap, ◌∙◌, inl, inr, arith}
use Rattle.ix_cluster.proofs.Members.{first_has, rest_has, either_has, one_has}
use Rattle.ix_closure.proofs.laws.items_of_a_list_bring.Goals as goal

pub returns-clause-some : goal.returns-clause-some
returns-clause-some c = (2, rest_has 1 (2 ∷ []) 2 (first_has 2 []), refl)

pub returns-clause-none : goal.returns-clause-none
returns-clause-none c = λ h.
    let is : 3 ≡ h.0 = cc (h.2) in
    elim (either_has 1 (2 ∷ []) h.0 h.1) [ inl e ↦ absurd (omega (arith, is, e)) | inr r ↦ absurd (omega (arith, is, one_has 2 h.0 r)) ]

pub returns-clause-first : goal.returns-clause-first
returns-clause-first c = (0, 1, omega arith, refl, refl)

pub returns-clause-behind : goal.returns-clause-behind
returns-clause-behind c = λ h.
    let number : h.0 ≡ 0 = omega (arith, h.2) in
    let at : Some 1 ≡ Some h.1 = sym (ap (slice_get (1 ∷ 2 ∷ [])) number) ∙ h.3 in
    let one : 1 ≡ h.1 = cc at in
    let two : 2 ≡ h.1 = cc (h.4) in
    absurd (omega (arith, one, two))
