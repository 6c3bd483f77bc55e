-- Spans of slots and of rules, and which of them useful subtrees have.
use Rattle.std.specs.Prelude.{ℕ, ◌<◌, Bool, true, false, length}
use Rattle.ix_model.specs.declared.rules.Kind.{Kind}
use Rattle.ix_model.specs.declared.rules.Kind.TheVariants as kind
use Rattle.ix_model.specs.declared.sub.Sub.{Sub}
use Rattle.ix_model.specs.Expansion.Parts.{Parts}
use Rattle.ix_model.specs.Expansion.Numbered.{kind_at}
use Rattle.ix_model.specs.Expansion.SlotPlaces.{IsLastSlot}
use Rattle.ix_model.specs.Closure.Useful.{sub_at, Useful}
use Rattle.ix_height.specs.declared.span.Owner.{Owner}
use Rattle.ix_height.specs.declared.span.Owner.TheVariants as owner
use Rattle.ix_height.specs.declared.span.Span.{Span}

-- the slot from l up to r: what stands before its dot derives this part of the text
abbrev pub of_slot : ℕ → ℕ → ℕ → Span
of_slot s l r = record { owner = owner.Slot s; left = l; right = r }

-- the rule from l up to r
abbrev pub of_rule : ℕ → ℕ → ℕ → Span
of_rule q l r = record { owner = owner.Rule q; left = l; right = r }

abbrev pub slot_span : Sub → Span
slot_span sub = of_slot sub.slot sub.left sub.right

-- a named rule adds one to the heights within it, and a helper nothing
abbrev pub is_named : Kind → Bool
is_named kind.Named = true
is_named _ = false

module _ (plan : Parts) where
  -- a useful subtree has the span; for a rule, one that ends an alternative of it
  abbrev pub IsOwnerOfUse : Owner → ℕ → ℕ → Type 0
  IsOwnerOfUse (owner.Slot s) l r = (k : ℕ) × Useful plan (sub_at s l k r)
  IsOwnerOfUse (owner.Rule q) l r = (s : ℕ) × (k : ℕ) × IsLastSlot plan s q × Useful plan (sub_at s l k r)

  abbrev pub IsOfUse : Span → Type 0
  IsOfUse t = IsOwnerOfUse t.owner t.left t.right

  -- a named rule is one higher than what it is made of
  abbrev pub is_raised_owner : Owner → Bool
  is_raised_owner (owner.Slot s) = false
  is_raised_owner (owner.Rule q) = is_named (kind_at plan.rules q)

  abbrev pub is_raised : Span → Bool
  is_raised t = is_raised_owner t.owner

  -- its rule is there
  abbrev pub IsOwnerThere : Owner → Type 0
  IsOwnerThere (owner.Slot s) = Unit {0}
  IsOwnerThere (owner.Rule q) = q < length plan.rules.flats

  abbrev pub IsThere : Span → Type 0
  IsThere t = IsOwnerThere t.owner
