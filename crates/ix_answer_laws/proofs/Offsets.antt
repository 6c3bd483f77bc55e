-- A text has one offset.
use Rattle.std.proofs.Common.{◌≡◌, ◌⊎◌, ℕ, ◌≤◌, List, arith}
use mathlib.Core.Logic.{inl, inr}
use Rattle.ix_model.specs.declared.grammar.Grammar.{Grammar}
use Rattle.ix_model.specs.Derivations.Offset.{IsReached, Offset}

-- the greater of two offsets would be reached
pub offset_is_one : (g : Grammar) (s : List ℕ) (o p : ℕ) → Offset g s o → Offset g s p → o ≡ p
offset_is_one g s o p (h, greatest) (k, highest) = omega (arith, at_most o p h highest, at_most p o k greatest)
  where
    at_most : (a b : ℕ) → IsReached g s a ⊎ (a ≡ 0) → ((j : ℕ) → IsReached g s j → j ≤ b) → a ≤ b
    at_most a b (inl r) all = all a r
    at_most a b (inr e) all = omega (arith, e)
