-- The furthest descriptor stands at the offset.
use Rattle.std.proofs.Common.{◌⊎◌, ◌≡◌, ℕ, ◌≤◌, arith}
use mathlib.Core.Logic.{inl, inr}
use Rattle.std.proofs.Math.Logic.{⊎_swap}
use Rattle.ix_model.specs.declared.grammar.Grammar.{Grammar}
use Rattle.ix_model.specs.Expansion.Parts.{Parts}
use Rattle.ix_model.specs.Expansion.Planned.{IsPlanned, IsPlanOf}
use Rattle.ix_model.specs.Derivations.Offset.{IsReached, Offset}
use Rattle.ix_model.proofs.Readers.{get_within}
use Rattle.ix_offset_laws.specs.Furthest.{HasDotAt, Furthest}
use Rattle.ix_offset_laws.proofs.ReachedDots.{desc_reached}
use Rattle.ix_offset_laws.proofs.EnteredTerms.{reached_desc}

module _ (g : Grammar) (plan : Parts) (k : IsPlanOf g plan) where
  -- where a descriptor has its dot, the text begins, or a terminal that is entered ends
  pub dot_reached : (p : ℕ) → HasDotAt plan p → (p ≡ 0) ⊎ IsReached g plan.text p
  dot_reached p h =
      let rule = get_within g.rules 0 k.first in
      desc_reached g plan k.text k.expanded rule.0 rule.1 h.0 h.1 p h.2

  module _ (planned : IsPlanned plan) where
    -- where a terminal that is entered ends, a descriptor has its dot
    pub reached_dot : (p : ℕ) → IsReached g plan.text p → HasDotAt plan p
    reached_dot p h = reached_desc g plan planned k.text k.expanded k.unique p h

    to_reached : (o : ℕ) → HasDotAt plan o ⊎ (o ≡ 0) → IsReached g plan.text o ⊎ (o ≡ 0)
    to_reached o (inl h) = ⊎_swap (dot_reached o h)
    to_reached o (inr e) = inr e

    to_dot : (o : ℕ) → IsReached g plan.text o ⊎ (o ≡ 0) → HasDotAt plan o ⊎ (o ≡ 0)
    to_dot o (inl h) = inl (reached_dot o h)
    to_dot o (inr e) = inr e

    pub offset_of : (o : ℕ) → Furthest plan o → Offset g plan.text o
    offset_of o h = (to_reached o h.0, λ j r. h.1 j (reached_dot j r))

    within : (o p : ℕ) → ((j : ℕ) → IsReached g plan.text j → j ≤ o) → (p ≡ 0) ⊎ IsReached g plan.text p → p ≤ o
    within o p h (inl e) = omega (arith, e)
    within o p h (inr r) = h p r

    pub furthest_of : (o : ℕ) → Offset g plan.text o → Furthest plan o
    furthest_of o h = (to_dot o h.0, λ p d. within o p h.1 (dot_reached p d))

-- no two positions are the furthest
pub furthest_is_one : (plan : Parts) (o p : ℕ) → Furthest plan o → Furthest plan p → o ≡ p
furthest_is_one plan o p h k = omega (arith, below plan o p h k, below plan p o k h)
  where
    below : (plan : Parts) (a b : ℕ) → Furthest plan a → Furthest plan b → a ≤ b
    below plan a b (inl d, u) y = y.1 a d
    below plan a b (inr e, u) y = omega (arith, e)
