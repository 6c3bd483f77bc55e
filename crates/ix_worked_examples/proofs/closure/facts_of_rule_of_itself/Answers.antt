use Rattle.std.proofs.Common.{◌≡◌, ◌⊎◌, ℕ, codes}
use mathlib.Core.Logic.{inl, inr}
use Rattle.ix_model.specs.Closure.Closed.{Called, start, Desc, arrived, Edge, End, Part}
use Rattle.ix_examples.specs.SmallPlans.{cycle}
use Rattle.ix_worked_examples.proofs.PlanFacts.{by_two, by_three, by_four}
use Rattle.ix_examples.proofs.SmallClosures.{called_c, desc_c, edge_c, end_c, part_c, desc_0c, desc_2c, edge_0c, part_1c, part_3c, end_0c}
use Rattle.ix_worked_examples.proofs.closure.facts_of_rule_of_itself.Goals as goal

pub returns-clause-called : goal.returns-clause-called
returns-clause-called c = λ r p. (called_c r p, λ h. by_two (Called (cycle (codes "a"))) r p 0 0 h.0 h.1 start)

pub returns-clause-edges : goal.returns-clause-edges
returns-clause-edges c = λ r p s l. (edge_c r p s l, λ h. by_four (Edge (cycle (codes "a"))) r p s l 0 0 0 0 h.0 h.1 h.2 h.3 edge_0c)

pub returns-clause-descs : goal.returns-clause-descs
returns-clause-descs c = λ s l p. (desc_c s l p, desc_by s l p)
  where
    desc_by : (s l p : ℕ) → (l ≡ 0) × ((((s ≡ 0) ⊎ (s ≡ 2)) × (p ≡ 0)) ⊎ (((s ≡ 1) ⊎ (s ≡ 3)) × (p ≡ 1))) → Desc (cycle (codes "a")) s l p
    desc_by s l p (e, inl (inl f, g)) = by_three (Desc (cycle (codes "a"))) s l p 0 0 0 f e g desc_0c
    desc_by s l p (e, inl (inr f, g)) = by_three (Desc (cycle (codes "a"))) s l p 2 0 0 f e g desc_2c
    desc_by s l p (e, inr (inl f, g)) = by_three (Desc (cycle (codes "a"))) s l p 1 0 1 f e g (arrived 1 0 0 1 part_1c)
    desc_by s l p (e, inr (inr f, g)) = by_three (Desc (cycle (codes "a"))) s l p 3 0 1 f e g (arrived 3 0 0 1 part_3c)

pub returns-clause-ends : goal.returns-clause-ends
returns-clause-ends c = λ r l e. (end_c r l e, λ h. by_three (End (cycle (codes "a"))) r l e 0 0 1 h.0 h.1 h.2 end_0c)

pub returns-clause-parts : goal.returns-clause-parts
returns-clause-parts c = λ s l k e. (part_c s l k e, part_by s l k e)
  where
    part_by : (s l k e : ℕ) → ((s ≡ 1) ⊎ (s ≡ 3)) × (l ≡ 0) × (k ≡ 0) × (e ≡ 1) → Part (cycle (codes "a")) s l k e
    part_by s l k e (inl f, g, h, i) = by_four (Part (cycle (codes "a"))) s l k e 1 0 0 1 f g h i part_1c
    part_by s l k e (inr f, g, h, i) = by_four (Part (cycle (codes "a"))) s l k e 3 0 0 1 f g h i part_3c
