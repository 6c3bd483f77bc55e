-- The slots of an alternative, counted from the front.
use Rattle.std.proofs.Common.{◌≡◌, refl, ap, ◌∙◌, ℕ, zero, suc, ◌+◌, List, [], ◌∷◌, arith}
use Rattle.ix_model.specs.declared.plan.SlotInfo.{SlotInfo}
use Rattle.ix_model.specs.Expansion.Numbering.{slot, dots_from}

-- so many slots of an alternative, from a dot on
abbrev pub dots : ℕ → ℕ → ℕ → ℕ → List SlotInfo
dots r a dot zero = []
dots r a dot (suc n) = slot r a dot ∷ dots r a (dot + 1) n

-- with n symbols behind the dot there is one slot more
one_more : (r a dot n : ℕ) → dots r a dot (suc n) ≡ dots_from r a dot n
one_more r a dot zero = refl
one_more r a dot (suc n) = ap (λ (z : List SlotInfo). slot r a dot ∷ z) (one_more r a (dot + 1) n)

pub dots_are : (r a dot m n : ℕ) → m ≡ n + 1 → dots r a dot m ≡ dots_from r a dot n
dots_are r a dot m n e = let o : m ≡ suc n = omega (arith, e) in ap (dots r a dot) o ∙ one_more r a dot n

-- the first of them and the others
pub next_dot : (r a dot m n : ℕ) → m ≡ n + 1 → dots r a dot m ≡ slot r a dot ∷ dots r a (dot + 1) n
next_dot r a dot m n e = let o : m ≡ suc n = omega (arith, e) in ap (dots r a dot) o
