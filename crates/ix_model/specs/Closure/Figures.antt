-- The figures of a plan: how many descriptors its closure has, and how many binary subtrees its derivations use.
-- They are this project's own.
use Rattle.std.specs.Prelude.{◌≡◌, ℕ, List}
use Rattle.ix_model.specs.declared.counts.Counts.{Counts}
use Rattle.ix_model.specs.declared.grammar.Grammar.{Grammar}
use Rattle.ix_model.specs.Closure.Closed.{Desc}
use Rattle.ix_model.specs.Closure.Counting.{HasCount}
use Rattle.ix_model.specs.Closure.Useful.{Useful}
use Rattle.ix_model.specs.Expansion.Parts.{Parts}
use Rattle.ix_model.specs.Expansion.Planned.{IsPlanned, IsPlanOf}

-- a descriptor: a slot, where its rule was called, and where its dot stands
pub record Dot : Type 0 where
  pub slot : ℕ
  pub left : ℕ
  pub pos : ℕ

-- the figures of the plan
pub record AreCounts (plan : Parts) (counts : Counts) : Type 0 where
  pub descriptors : HasCount (λ (d : Dot). Desc plan d.slot d.left d.pos) counts.descriptors
  pub subtrees : HasCount (Useful plan) counts.subtrees

-- the figures of a text under a grammar: the plan is the grammar's for these characters
pub record IsCounted (g : Grammar) (s : List ℕ) (plan : Parts) (counts : Counts) : Type 0 where
  pub plan_of : IsPlanOf g plan
  pub planned : IsPlanned plan
  pub text : plan.text ≡ s
  pub counts_of : AreCounts plan counts
