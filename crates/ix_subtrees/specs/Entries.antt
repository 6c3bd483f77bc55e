-- Lists of choices for spans: pivots of a slot, or alternatives of a rule.
use Rattle.std.specs.Prelude.{◌≡◌, ◌⊎◌, ◌↔◌, ℕ, ◌<◌, List, length, map, get_or}
use Rattle.std.specs.List.{Contains}
use Rattle.std.specs.List.Sorted.{IsStrictlySortedBy}
use Rattle.ix_subtrees.specs.declared.entry.Span.{Span}
use Rattle.ix_subtrees.specs.declared.entry.Entry.{Entry}
use Rattle.ix_subtrees.specs.Orders.{entry_cmp}

-- the choice k for the number n over the span from l to r
abbrev pub entry_for : ℕ → ℕ → ℕ → ℕ → Entry
entry_for n l r k = record { span = record { number = n; left = l; right = r }; choice = k }

-- the entry at place i; where there is none, a default that no reader answers
abbrev pub entry_at : List Entry → ℕ → Entry
entry_at es i = get_or es i (entry_for 0 0 0 0)

-- a comes before b: by number, then by left end and by right end
abbrev pub IsSpanBefore : Span → Span → Type 0
IsSpanBefore a b = (a.number < b.number) ⊎ ((a.number ≡ b.number) × ((a.left < b.left) ⊎ ((a.left ≡ b.left) × (a.right < b.right))))

-- x comes before y: by span, then by choice
abbrev pub IsBefore : Entry → Entry → Type 0
IsBefore x y = IsSpanBefore x.span y.span ⊎ ((x.span ≡ y.span) × (x.choice < y.choice))

-- each entry comes before all later ones, so it is there once
abbrev pub AreInOrder : List Entry → Type 0
AreInOrder es = (i j : ℕ) → i < j → j < length es → IsBefore (entry_at es i) (entry_at es j)

-- the span's choices, in ascending order
pub record AreChoicesOf (es : List Entry) (number left right : ℕ) (found : List ℕ) : Type 0 where
  pub members : (k : ℕ) → Contains found k ↔ Contains es (entry_for number left right k)
  pub rising : (i j : ℕ) → i < j → j < length found → get_or found i 0 < get_or found j 0

-- both lists have the same members
abbrev pub SameMembers : List Entry → List Entry → Type 0
SameMembers xs ys = (e : Entry) → Contains xs e ↔ Contains ys e

-- entries in order, and their choices beside them
pub record AreChoices (entries : List Entry) (choices : List ℕ) : Type 0 where
  pub order : IsStrictlySortedBy entry_cmp entries
  pub same : choices ≡ map (λ (e : Entry). e.choice) entries
