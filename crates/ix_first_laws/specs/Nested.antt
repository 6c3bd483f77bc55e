-- How helper rules lead to one another: to helpers of greater numbers alone, and a list also to itself, at the beginning of its second
-- alternative. So a search through helpers ends, wherever named rules lead. It is this project's own.
use Rattle.std.specs.Prelude.{◌≡◌, ◌⊎◌, ℕ, ◌<◌, ◌≤◌, length, Option, Some, slice_get}
use Rattle.ix_model.specs.declared.grammar.Mark.{Mark}
use Rattle.ix_model.specs.declared.rules.Kind.TheVariants as kind
use Rattle.ix_model.specs.declared.rules.Sym.TheVariants as sym
use Rattle.ix_model.specs.declared.rules.Rules.{Rules}
use Rattle.ix_model.specs.Expansion.Numbered.{kind_at, lines_at, syms_at}

module _ (rules : Rules) where
  -- rule q is the list r itself, which begins the second alternative
  abbrev pub IsListAgain : ℕ → ℕ → ℕ → ℕ → Type 0
  IsListAgain r a n q = (q ≡ r) × (kind_at rules r ≡ kind.List) × (a ≡ 1) × (n ≡ 0)

  -- symbol n of alternative a of rule r may be rule q: one of the two rules is named, or q comes after r, or it is the list again
  abbrev pub MayLead : ℕ → ℕ → ℕ → ℕ → Type 0
  MayLead r a n q = (kind_at rules r ≡ kind.Named) ⊎ ((kind_at rules q ≡ kind.Named) ⊎ ((r < q) ⊎ IsListAgain r a n q))

  pub record IsNested : Type 0 where
    pub below : (r a n q : ℕ) (mark : Option Mark) → slice_get (syms_at rules r a) n ≡ Some (sym.Rule q mark) → MayLead r a n q
    -- a list has no third alternative
    pub two : (r : ℕ) → kind_at rules r ≡ kind.List → length (lines_at rules r) ≤ 2
