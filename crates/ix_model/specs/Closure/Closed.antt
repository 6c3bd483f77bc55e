-- The closure of a plan: what a generalized LL parse finds of the text, as the least set of facts that these rules give.
-- It has no order of work. A cluster is a rule and the position where it is called; a descriptor is a slot, where its
-- rule was called, and where its dot stands; a return edge says for whom a cluster was called; an end of a cluster is
-- where its rule ends; a binary subtree spans the symbols before a slot's dot and has the last of them from its pivot on.
-- Source: Scott, Johnstone and van Binsbergen, "Derivation representation using binary subtree sets", Science of
-- Computer Programming 175 (2019). Our own: binary subtrees are kept for each slot with a symbol before its dot, and
-- not shared by alternatives that begin alike; an empty alternative has one, with an empty span.
use Rattle.std.specs.Prelude.{ℕ, Option}
use Rattle.ix_model.specs.declared.grammar.Mark.{Mark}
use Rattle.ix_model.specs.declared.rules.Sym.{Sym}
use Rattle.ix_model.specs.declared.rules.Sym.TheVariants as sym
use Rattle.ix_model.specs.Expansion.Parts.{Parts}
use Rattle.ix_model.specs.Expansion.FlatDerives.{IsTerminal}
use Rattle.ix_model.specs.Expansion.SlotPlaces.{HasNext, IsFirstSlot, IsLastSlot}

module _ (plan : Parts) where
  mutual
    -- the rule is called at the position: this cluster is there
    pub data Called : ℕ → ℕ → Type 0 where
      -- the first rule is called at the start of the text
      start : Called 0 0
      -- a rule is called where its cluster has a return edge
      by_edge : (rule at slot left : ℕ) → Edge rule at slot left → Called rule at

    -- the slot has the descriptor with its rule called at left and its dot at right
    pub data Desc : ℕ → ℕ → ℕ → Type 0 where
      -- a called rule begins each of its alternatives
      begun : (rule at slot : ℕ) → Called rule at → IsFirstSlot plan slot rule → Desc slot at at
      -- where there is a binary subtree, the slot's dot stands at its right end
      arrived : (slot left pivot right : ℕ) → Part slot left pivot right → Desc slot left right

    -- the cluster of the rule at the position has the return edge to the slot, whose own rule was called at left
    pub data Edge : ℕ → ℕ → ℕ → ℕ → Type 0 where
      -- a descriptor with its dot before a rule waits for that rule's cluster
      waiting : (slot left at after rule : ℕ) (mark : Option Mark) → Desc slot left at → HasNext plan slot after (sym.Rule rule mark) → Edge rule at slot left

    -- the cluster of the rule at left has the end right
    pub data End : ℕ → ℕ → ℕ → Type 0 where
      -- a descriptor with its dot at the end of an alternative ends the rule
      ended : (slot left right rule : ℕ) → Desc slot left right → IsLastSlot plan slot rule → End rule left right

    -- the slot has the binary subtree from left to right with this pivot
    pub data Part : ℕ → ℕ → ℕ → ℕ → Type 0 where
      -- an empty alternative of a called rule has the empty subtree
      empty : (rule at slot : ℕ) → Called rule at → IsFirstSlot plan slot rule → IsLastSlot plan slot rule → Part slot at at at
      -- a descriptor with its dot before a terminal that matches passes it
      scanned : (slot left pivot after right : ℕ) (x : Sym) → Desc slot left pivot → HasNext plan slot after x → IsTerminal plan x pivot right → Part after left pivot right
      -- a descriptor with its dot before an insertion passes it, and takes no character
      inserted : (slot left pivot after n : ℕ) → Desc slot left pivot → HasNext plan slot after (sym.Insert n) → Part after left pivot pivot
      -- a return edge and an end of one cluster meet: the slot passes the rule
      joined : (rule pivot slot left right after : ℕ) (mark : Option Mark) → Edge rule pivot slot left → End rule pivot right → HasNext plan slot after (sym.Rule rule mark) → Part after left pivot right
