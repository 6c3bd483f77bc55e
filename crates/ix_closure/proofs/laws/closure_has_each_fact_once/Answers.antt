use Rattle.std.proofs.Common.{rules, zero, suc, [], ◌∷◌, ◌++◌, Contains, refl, arith}
use Rattle.std.specs.List.{IsDistinct}
use Rattle.ix_model.specs.Closure.Useful.{sub_at}
use Rattle.ix_examples.specs.SmallPlans.{nothing}
use Rattle.ix_closure_laws.proofs.ClosedWithin.{called_within}
use Rattle.ix_examples.proofs.SmallClosures.{part_1}
use Rattle.ix_cluster.specs.declared.fact.Fact.{Fact}
use Rattle.ix_cluster.specs.declared.fact.Fact.TheVariants.{Called, Claim, End, Part}
use Rattle.ix_cluster.proofs.Members.{none_has}
use Rattle.ix_closure.specs.Examples.{a_called, nothing_called, nothing_closed}
use Rattle.ix_closure.proofs.Small.SmallStates.{b_closure, nothing_closure}
use Rattle.ix_closure.proofs.Small.SmallSteps.{nothing_planned}
use Rattle.ix_closure.proofs.laws.closure_has_each_fact_once.Goals as goal

turned_back : (f : Fact) → Contains (End 0 0 0 ∷ Claim 0 0 0 ∷ nothing_called) f → Contains nothing_closed f
turned_back f (zero, h, e) = (4, omega arith, e)
turned_back f (suc zero, h, e) = (3, omega arith, e)
turned_back f (suc (suc zero), h, e) = (0, omega arith, e)
turned_back f (suc (suc (suc zero)), h, e) = (1, omega arith, e)
turned_back f (suc (suc (suc (suc zero))), h, e) = (2, omega arith, e)
turned_back f (suc (suc (suc (suc (suc k)))), h, e) = absurd (omega (arith, h))

turned : (f : Fact) → Contains nothing_closed f → Contains (End 0 0 0 ∷ Claim 0 0 0 ∷ nothing_called) f
turned f (zero, h, e) = (2, omega arith, e)
turned f (suc zero, h, e) = (3, omega arith, e)
turned f (suc (suc zero), h, e) = (4, omega arith, e)
turned f (suc (suc (suc zero)), h, e) = (1, omega arith, e)
turned f (suc (suc (suc (suc zero))), h, e) = (0, omega arith, e)
turned f (suc (suc (suc (suc (suc k)))), h, e) = absurd (omega (arith, h))

end_left_out : Contains (nothing_called ++ Claim 0 0 0 ∷ []) (End 0 0 0) → ⊥
end_left_out = search rules

claim_left_out : Contains (nothing_called ++ End 0 0 0 ∷ []) (Claim 0 0 0) → ⊥
claim_left_out = search rules

part_left_out : Contains (a_called ++ Claim 0 0 0 ∷ []) (Part (sub_at 1 0 0 1)) → ⊥
part_left_out = search rules

pub returns-clause-whole : goal.returns-clause-whole
returns-clause-whole c = nothing_closure

pub returns-clause-turned : goal.returns-clause-turned
unfolding IsDistinct
returns-clause-turned c = record { closed = λ f h. nothing_closure.closed f (turned_back f h); all = λ f h. turned f (nothing_closure.all f h); once = search rules }

pub returns-clause-no_end : goal.returns-clause-no_end
returns-clause-no_end c = λ h. end_left_out (h.all (End 0 0 0) (nothing_closure.closed (End 0 0 0) (4, omega arith, refl)))

pub returns-clause-no_claim : goal.returns-clause-no_claim
returns-clause-no_claim c = λ h. claim_left_out (h.all (Claim 0 0 0) (nothing_closure.closed (Claim 0 0 0) (3, omega arith, refl)))

pub returns-clause-no_call : goal.returns-clause-no_call
returns-clause-no_call c = λ h. none_has (Called 0 0) (h.all (Called 0 0) (nothing_closure.closed (Called 0 0) (0, omega arith, refl)))

pub returns-clause-twice : goal.returns-clause-twice
unfolding IsDistinct
returns-clause-twice c = λ h. cc h.once.1.1.1.1.0.0

pub returns-clause-one_more : goal.returns-clause-one_more
returns-clause-one_more c = λ h. omega (arith, (called_within (nothing []) nothing_planned 0 1 (h.closed (Called 0 1) (5, omega arith, refl))).1)

pub returns-clause-on_b : goal.returns-clause-on_b
returns-clause-on_b c = b_closure

pub returns-clause-on_a : goal.returns-clause-on_a
returns-clause-on_a c = λ h. part_left_out (h.all (Part (sub_at 1 0 0 1)) part_1)
