-- Where there is a derivation of the text, there is a first one: the first among those that are no higher than the given
-- one, as all higher ones come after it.
use Rattle.std.proofs.Common.{◌≡◌, ◌≢◌, refl, ◌⊎◌, ◌≤◌, ℕ, List, length, None, arith}
use mathlib.Core.Logic.{inl, inr}
use Rattle.ix_model.specs.declared.grammar.Grammar.{Grammar}
use Rattle.ix_model.specs.declared.grammar.Term.{One}
use Rattle.ix_model.specs.declared.grammar.Factor.{Call}
use Rattle.ix_model.specs.Grammars.Written.{IsNamed}
use Rattle.ix_model.specs.Derivations.Trees.{Tree}
use Rattle.ix_model.specs.Derivations.Heights.{height}
use Rattle.ix_model.specs.Derivations.Derives.{Derives, IsDerivation}
use Rattle.ix_model.specs.Derivations.Order.{Before, First}
use Rattle.ix_model.specs.Grammars.Names.{HasUniqueNames}
use Rattle.ix_tree_laws.specs.Choice.{FirstExists}
use Rattle.ix_model.proofs.Decide.{Answered}
use Rattle.ix_tree_laws.proofs.Roots.{from_call, from_first_rule}
use Rattle.ix_tree_laws.proofs.Found.{FirstTree, FoundTree}
use Rattle.ix_tree_laws.proofs.FoundNodes.{lower_is_before}
use Rattle.ix_tree_laws.proofs.FoundWithin.{found_within}

module _ (g : Grammar) (s name : List ℕ) (unique : HasUniqueNames g) (named : IsNamed g 0 name) where
  -- what is first among the derivations that are no higher than d is first among all
  first_of_all : (d e : Tree) → FirstTree g s (height d) (One (Call None name)) 0 (length s) e → First g s e
  first_of_all d e y = (from_first_rule g s name e unique named y.holds.0, λ z h n. by_height z (from_call g s name z named h) n (grind arith))
    where
      not_same : (z : Tree) → z ≢ e → (z ≡ e) ⊎ Before e z (length s) → Before e z (length s)
      not_same z n (inl p) = absurd (n p)
      not_same z n (inr p) = p

      by_height : (z : Tree) → Derives g s z (One (Call None name)) 0 (length s) → z ≢ e → Answered (height z ≤ height d) → Before e z (length s)
      by_height z h n (inl k) = not_same z n (y.before z (h, k))
      by_height z h n (inr k) = lower_is_before g s 0 (length s) None name e z y.holds.0 h (grind (arith, k, y.holds.1))

  first_from : (d : Tree) → IsDerivation g s d → (e : Tree) × First g s e
  first_from d h = by_found (found_within g s unique (height d) (One (Call None name)) 0 (length s))
    where
      by_found : FoundTree g s (height d) (One (Call None name)) 0 (length s) → (e : Tree) × First g s e
      by_found (inl (e, y)) = (e, first_of_all d e y)
      by_found (inr none) = absurd (none d (from_call g s name d named h, omega arith))

pub first_exists : FirstExists
first_exists g s d unique h = let (a, terms, ds, p, (rule, at, o), all) = h in first_from g s rule.name unique (rule, at, refl) d h
