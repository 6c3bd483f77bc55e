use Rattle.std.proofs.Common.{◌≡◌, ◌≤◌, ◌⊎◌, refl, inl, inr, ℕ, zero, suc, arith, lit≤, codes}
use Rattle.std.specs.List.{Contains}
use Rattle.ix_sets.proofs.laws.ranges_of_sets.Goals as goal

-- `abc` has the characters from a to c
in_range : (c : ℕ) → Contains (codes "abc") c → (97 ≤ c) × (c ≤ 99)
in_range c (zero, l, e) = omega (arith, e)
in_range c (suc zero, l, e) = omega (arith, e)
in_range c (suc (suc zero), l, e) = omega (arith, e)
in_range c (suc (suc (suc k)), l, e) = absurd (omega (arith, l))

one_of_three : (c : ℕ) → (97 ≤ c) × (c ≤ 99) → (97 ≡ c) ⊎ ((98 ≡ c) ⊎ (99 ≡ c))
one_of_three c h = grind (arith, h.0, h.1)

contained : (c : ℕ) → (97 ≡ c) ⊎ ((98 ≡ c) ⊎ (99 ≡ c)) → Contains (codes "abc") c
contained c (inl e) = (0, lit≤ tt, e)
contained c (inr (inl e)) = (1, lit≤ tt, e)
contained c (inr (inr e)) = (2, lit≤ tt, e)

pub returns-clause-members : goal.returns-clause-members
returns-clause-members c = λ d _. (
  λ h. elim h [ inl k ↦ inl (contained d (one_of_three d k)) | inr k ↦ absurd k ],
  λ h. elim h [ inl k ↦ inl (in_range d k) | inr k ↦ absurd k ],
)

pub returns-clause-one_short : goal.returns-clause-one_short
returns-clause-one_short c = λ h. elim ((h 99 refl).1 (inl (2, lit≤ tt, refl))) [ inl k ↦ omega (arith, k.1) | inr k ↦ k ]

pub returns-clause-one_more : goal.returns-clause-one_more
returns-clause-one_more c = λ h. let k = (h 100 refl).0 (inl (lit≤ tt, lit≤ tt)) in grind arith

pub returns-clause-last : goal.returns-clause-last
returns-clause-last c = λ h. elim ((h 0x10_FFFF refl).1 (λ none. none)) [ inl k ↦ omega (arith, k.1) | inr k ↦ k ]
