use Rattle.std.proofs.Common.{refl, inl, inr, IsTrue, [], ◌∷◌, arith, lit≤}
use Rattle.regex_class.specs.Ranges.{in_range, in_ranges}
use Rattle.ix_sets.proofs.Gaining.{gains_one, gains_range}
use Rattle.ix_sets.proofs.laws.ranges_gain_numbers.Goals as goal

pub returns-clause-gained : goal.returns-clause-gained
returns-clause-gained c = gains_one 97 (gains_range 97 97 refl)

pub returns-clause-lost : goal.returns-clause-lost
unfolding in_ranges in_range
returns-clause-lost c = λ g. let kept : IsTrue (in_ranges ((97, 97) ∷ []) 48) = (g.held 48 (lit≤ tt)).1 (inl refl) in absurd (cc kept)

pub returns-clause-not_gained : goal.returns-clause-not_gained
unfolding in_ranges in_range
returns-clause-not_gained c = λ g. let gained : IsTrue (in_ranges [] 97) = (g.held 97 (lit≤ tt)).1 (inr refl) in absurd (cc gained)

pub returns-clause-too_much : goal.returns-clause-too_much
unfolding in_ranges in_range
returns-clause-too_much c = λ g. elim ((g.held 98 (lit≤ tt)).0 refl) [ inl h ↦ absurd (cc h) | inr h ↦ omega (arith, h) ]
