use Rattle.std.proofs.Common.{◌≡◌, [], ◌∷◌, refl, ◌⊎◌, inl, inr, Contains}
use Rattle.ix_cluster.specs.declared.fact.Fact.TheVariants.{Called, Desc, Part}
use Rattle.ix_cluster.specs.Steps.{empty_sub}
use Rattle.ix_cluster.proofs.Members.{one_has, first_has, either_has}
use Rattle.ix_cluster.proofs.SmallBanks.{second_begins, begins_sound}
use Rattle.ix_cluster.proofs.laws.facts_come_in_order.Goals as goal

pub returns-clause-true_facts : goal.returns-clause-true_facts
returns-clause-true_facts c = begins_sound.true_facts

pub returns-clause-companions : goal.returns-clause-companions
returns-clause-companions c = begins_sound.companions

pub returns-clause-too_early : goal.returns-clause-too_early
returns-clause-too_early c = λ h. let e = one_has (Called 0 0) (Desc 0 0 0) (h.later 1 0 0 0 refl) in absurd (cc e)

pub returns-clause-alone : goal.returns-clause-alone
returns-clause-alone c = λ h. by (either_has (Called 0 0) (Desc 0 0 0 ∷ []) (Desc 2 0 0) (h.alternatives 0 0 2 (first_has (Called 0 0) (Desc 0 0 0 ∷ [])) second_begins))
  where
    by : (Called 0 0 ≡ Desc 2 0 0) ⊎ Contains (Desc 0 0 0 ∷ []) (Desc 2 0 0) → ⊥
    by (inl e) = cc e
    by (inr h) = let e = one_has (Desc 0 0 0) (Desc 2 0 0) h in cc e

pub returns-clause-no_descriptor : goal.returns-clause-no_descriptor
returns-clause-no_descriptor c = λ h. let e = one_has (Part (empty_sub 0 0)) (Desc 0 0 0) (h.parts (empty_sub 0 0) (first_has (Part (empty_sub 0 0)) [])) in absurd (cc e)
