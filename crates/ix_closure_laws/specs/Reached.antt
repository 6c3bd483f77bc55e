-- The binary subtrees that are reached from the root: the closure is walked from the first rule over the whole text down
-- to the rules and subtrees that it is made of.
use Rattle.std.specs.Prelude.{ℕ, length, Option}
use Rattle.ix_model.specs.declared.grammar.Mark.{Mark}
use Rattle.ix_model.specs.declared.rules.Sym.{Sym}
use Rattle.ix_model.specs.declared.rules.Sym.TheVariants as sym
use Rattle.ix_model.specs.Expansion.Parts.{Parts}
use Rattle.ix_model.specs.Expansion.SlotPlaces.{HasNext, IsLastSlot}
use Rattle.ix_model.specs.Closure.Closed.{Part}

module _ (plan : Parts) where
  mutual
    -- the rule is reached over the span
    pub data RuleReached : ℕ → ℕ → ℕ → Type 0 where
      -- the first rule over the whole text
      root : RuleReached 0 0 (length plan.text)
      -- the rule before the dot of a subtree that is reached, from the pivot on
      as_child : (slot after left pivot right rule : ℕ) (mark : Option Mark) → SubReached after left pivot right → HasNext plan slot after (sym.Rule rule mark) → RuleReached rule pivot right

    -- the subtree is reached
    pub data SubReached : ℕ → ℕ → ℕ → ℕ → Type 0 where
      -- of the last slot of a rule that is reached over the span
      as_last : (rule slot left pivot right : ℕ) → RuleReached rule left right → IsLastSlot plan slot rule → Part plan slot left pivot right → SubReached slot left pivot right
      -- of the slot before a subtree that is reached, up to its pivot
      as_prefix : (slot after left first pivot right : ℕ) (x : Sym) → SubReached after left pivot right → HasNext plan slot after x → Part plan slot left first pivot → SubReached slot left first pivot
