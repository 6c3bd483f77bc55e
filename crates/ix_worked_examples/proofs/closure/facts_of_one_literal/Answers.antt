use Rattle.std.proofs.Common.{◌≡◌, ◌⊎◌, ℕ, codes}
use mathlib.Core.Logic.{inl, inr}
use Rattle.ix_model.specs.Closure.Closed.{Called, start, Desc, End, Part}
use Rattle.ix_examples.specs.SmallPlans.{only_a}
use Rattle.ix_worked_examples.proofs.PlanFacts.{by_two, by_three, by_four}
use Rattle.ix_examples.proofs.SmallClosures.{called_a, edge_a, desc_a, end_a, part_a, desc_0, desc_1, part_1, end_1}
use Rattle.ix_worked_examples.proofs.closure.facts_of_one_literal.Goals as goal

pub returns-clause-called : goal.returns-clause-called
returns-clause-called c = λ r p. (called_a (codes "a") r p, λ h. by_two (Called (only_a (codes "a"))) r p 0 0 h.0 h.1 start)

pub returns-clause-edges : goal.returns-clause-edges
returns-clause-edges c = edge_a

pub returns-clause-descs : goal.returns-clause-descs
returns-clause-descs c = λ s l p. (desc_a s l p, desc_by s l p)
  where
    desc_by : (s l p : ℕ) → (l ≡ 0) × (((s ≡ 0) × (p ≡ 0)) ⊎ ((s ≡ 1) × (p ≡ 1))) → Desc (only_a (codes "a")) s l p
    desc_by s l p (e, inl h) = by_three (Desc (only_a (codes "a"))) s l p 0 0 0 h.0 e h.1 (desc_0 (codes "a"))
    desc_by s l p (e, inr h) = by_three (Desc (only_a (codes "a"))) s l p 1 0 1 h.0 e h.1 desc_1

pub returns-clause-ends : goal.returns-clause-ends
returns-clause-ends c = λ r l e. (end_a r l e, λ h. by_three (End (only_a (codes "a"))) r l e 0 0 1 h.0 h.1 h.2 end_1)

pub returns-clause-parts : goal.returns-clause-parts
returns-clause-parts c = λ s l k e. (part_a s l k e, λ h. by_four (Part (only_a (codes "a"))) s l k e 1 0 0 1 h.0 h.1 h.2 h.3 part_1)
