-- What the set of useful subtrees lists.
use Rattle.std.specs.Prelude.{◌↔◌, ℕ, List, length}
use Rattle.std.specs.List.{Contains}
use Rattle.ix_model.specs.declared.rules.Sym.{Sym}
use Rattle.ix_model.specs.declared.sub.Sub.{Sub}
use Rattle.ix_model.specs.Expansion.Parts.{Parts}
use Rattle.ix_model.specs.Expansion.Slots.{IsSlot}
use Rattle.ix_model.specs.Expansion.FlatDerives.{IsLine}
use Rattle.ix_model.specs.Closure.Useful.{sub_at, Useful}
use Rattle.ix_subtrees.specs.declared.entry.Entry.{Entry}
use Rattle.ix_subtrees.specs.Entries.{AreInOrder}

-- the subtree of the entry's slot and span whose pivot is the entry's choice
abbrev pub sub_of_entry : Entry → Sub
sub_of_entry e = sub_at e.span.number e.span.left e.choice e.span.right

-- what a contract sees of the set: pivots of slots, and alternatives of rules
pub record SetLists : Type 0 where
  pub ways : List Entry
  pub alts : List Entry

module _ (plan : Parts) where
  -- the slot has its dot at the end of alternative a of rule q
  abbrev pub IsLastOf : ℕ → ℕ → ℕ → Type 0
  IsLastOf s q a = (syms : List Sym) × IsSlot plan s q a (length syms) × IsLine plan q a syms

  -- exactly the useful subtrees are listed, by their pivots
  abbrev pub AreWays : List Entry → Type 0
  AreWays es = (e : Entry) → Contains es e ↔ Useful plan (sub_of_entry e)

  -- an alternative is listed for its rule and a span exactly where a useful subtree of that span ends it
  abbrev pub AreAlts : List Entry → Type 0
  AreAlts es = (e : Entry) → Contains es e ↔ ((s : ℕ) × (k : ℕ) × IsLastOf s e.span.number e.choice × Useful plan (sub_at s e.span.left k e.span.right))

  -- the set is the plan's: its useful subtrees, each once, in the order of slot, left, right, pivot, and the alternatives
  -- that they end
  pub record IsSetOf (set : SetLists) : Type 0 where
    pub ways : AreWays set.ways
    pub order : AreInOrder set.ways
    pub alts : AreAlts set.alts
