-- What the derived orders say of fields.
use Rattle.std.proofs.Common.{rules, ◌≡◌, refl, ap, sym, ◌∙◌, ◌⊎◌, ◌+◌, ◌<◌, ℕ, true, false, List, arith, get_or, true≢false}
use mathlib.Core.Logic.{inl, inr}
use Rattle.std.specs.declared.cmp.Ordering.{Ordering}
use Rattle.std.specs.declared.cmp.Ordering.TheVariants.{Less, Equal, Greater}
use Rattle.std.specs.Ordering.{is_lt, is_eq, nat_cmp, ordering_then, ordering_reverse, MatchOrdering}
use Rattle.std.specs.Cmp.{IsTotalOrder}
use Rattle.std.specs.List.Sorted.{IsSorted, IsSortedByKey, IsStrictlySortedBy}
use Rattle.std.proofs.lemmas.Cmp.{tied_itself, ranked}
use Rattle.std.proofs.lemmas.Map.Keys.{Less-from_sorted}
use Rattle.ix_subtrees.specs.declared.entry.Span.{Span}
use Rattle.ix_subtrees.specs.declared.entry.Entry.{Entry}
use Rattle.ix_subtrees.specs.declared.node.Key.{Key}
use Rattle.ix_subtrees.specs.declared.node.Node.{Node}
use Rattle.ix_subtrees.specs.contracts.entry.SpanOrd.TheImpl.Laws as of_spans
use Rattle.ix_subtrees.specs.contracts.entry.SpanPartialEq.TheImpl as same_spans
use Rattle.ix_subtrees.specs.contracts.entry.EntryOrd.TheImpl.Laws as of_entries
use Rattle.ix_subtrees.specs.contracts.entry.EntryPartialEq.TheImpl as same_entries
use Rattle.ix_subtrees.specs.contracts.node.KeyOrd.TheImpl.Laws as of_keys
use Rattle.ix_subtrees.specs.contracts.node.KeyPartialEq.TheImpl as same_keys
use Rattle.ix_subtrees.specs.contracts.node.NodeOrd.TheImpl as of_nodes
use Rattle.ix_subtrees.specs.Orders.{span_cmp, entry_cmp, key_cmp}
use Rattle.ix_subtrees.specs.Entries.{entry_at, entry_for, IsSpanBefore, IsBefore, AreInOrder}

-- ---- an order by one part and then by another

then_less : (r s : Ordering) → ordering_then r s ≡ Less → (r ≡ Less) ⊎ ((r ≡ Equal) × (s ≡ Less))
then_less Less s e = inl refl
then_less Equal s e = inr (refl, e)
then_less Greater s e = absurd (true≢false (sym (ap is_lt e)))

-- where the whole is not less, neither is the first part
first_not_less : (r s : Ordering) → is_lt (ordering_then r s) ≡ false → is_lt r ≡ false
first_not_less Less s e = e
first_not_less Equal s e = refl
first_not_less Greater s e = refl

number_less : (x y : ℕ) → nat_cmp x y ≡ Less → x < y
number_less x y e = go (nat_cmp x y) (ranked x y (nat_cmp x y) refl) e
  where
    go : (r : Ordering) → MatchOrdering r (x < y) (x ≡ y) (y < x) → r ≡ Less → x < y
    go Less m e = m
    go Equal m e = absurd (true≢false (sym (ap is_lt e)))
    go Greater m e = absurd (true≢false (sym (ap is_lt e)))

number_equal : (x y : ℕ) → nat_cmp x y ≡ Equal → x ≡ y
number_equal x y e = go (nat_cmp x y) (ranked x y (nat_cmp x y) refl) e
  where
    go : (r : Ordering) → MatchOrdering r (x < y) (x ≡ y) (y < x) → r ≡ Equal → x ≡ y
    go Less m e = absurd (true≢false (ap is_lt e))
    go Equal m e = m
    go Greater m e = absurd (true≢false (sym (ap is_eq e)))

-- what is less is not greater
not_greater : {K : Type 0} {R : K → K → Ordering} → IsTotalOrder R → (a b : K) → R a b ≡ Less → is_lt (R b a) ≡ false
not_greater o a b e = ap is_lt (o.antisymm b a ∙ ap ordering_reverse e)

-- ---- spans and entries

pub span_total : IsTotalOrder span_cmp
span_total = of_spans.total-law

same_span_by : (a b : Span) → (same_spans.ghosts).eq a b ≡ true → a ≡ b
same_span_by a b e = search rules

pub same_span : (a b : Span) → span_cmp a b ≡ Equal → a ≡ b
same_span a b e = same_span_by a b (of_spans.matches_eq-law a b ∙ ap is_eq e)

pub same_entry : (x y : Entry) → (same_entries.ghosts).eq x y ≡ true → x ≡ y
same_entry x y e = search rules

span_before : (a b : Span) → span_cmp a b ≡ Less → IsSpanBefore a b
span_before a b e = elim (then_less (nat_cmp a.number b.number) (ordering_then (nat_cmp a.left b.left) (nat_cmp a.right b.right)) e) [
  | inl p ↦ inl (number_less a.number b.number p)
  | inr p ↦ inr (
    number_equal a.number b.number p.0,
    elim (then_less (nat_cmp a.left b.left) (nat_cmp a.right b.right) p.1) [ inl q ↦ inl (number_less a.left b.left q) | inr q ↦ inr (number_equal a.left b.left q.0, number_less a.right b.right q.1) ],
  )
]

pub entry_before : (x y : Entry) → entry_cmp x y ≡ Less → IsBefore x y
entry_before x y e = elim (then_less (span_cmp x.span y.span) (nat_cmp x.choice y.choice) e) [
  | inl p ↦ inl (span_before x.span y.span p)
  | inr p ↦ inr (same_span x.span y.span p.0, number_less x.choice y.choice p.1)
]

pub entries_in_order : (es : List Entry) → IsStrictlySortedBy entry_cmp es → AreInOrder es
entries_in_order es sorted i j h k = entry_before (entry_at es i) (entry_at es j) (Less-from_sorted entry_cmp es i j (entry_for 0 0 0 0) sorted h k)

-- of one span the lesser choice comes first
pub choice_rises : (x y : Entry) → x.span ≡ y.span → entry_cmp x y ≡ Less → x.choice < y.choice
choice_rises x y same e =
    let tied : span_cmp x.span y.span ≡ Equal = ap (span_cmp x.span) (sym same) ∙ tied_itself span_total x.span in
    number_less x.choice y.choice (sym (ap (λ (r : Ordering). ordering_then r (nat_cmp x.choice y.choice)) tied) ∙ e)

pub spans_sorted : (es : List Entry) → IsStrictlySortedBy entry_cmp es → IsSortedByKey (λ (e : Entry). e.span) span_cmp es
spans_sorted es sorted k d low high =
    let x = get_or es k d in
    let y = get_or es (k + 1) d in
    first_not_less (span_cmp y.span x.span) (nat_cmp y.choice x.choice) (not_greater of_entries.total-law x y (Less-from_sorted entry_cmp es k (k + 1) d sorted (omega arith) high))

-- ---- keys and nodes

pub key_total : IsTotalOrder key_cmp
key_total = of_keys.total-law

same_key_by : (a b : Key) → (same_keys.ghosts).eq a b ≡ true → a ≡ b
same_key_by a b e = search rules

pub same_key : (a b : Key) → key_cmp a b ≡ Equal → a ≡ b
same_key a b e = same_key_by a b (of_keys.matches_eq-law a b ∙ ap is_eq e)

pub keys_sorted : (nodes : List Node) → IsSorted (of_nodes.ghosts).cmp nodes → IsSortedByKey (λ (n : Node). n.key) key_cmp nodes
keys_sorted nodes sorted k d low high =
    let x = get_or nodes k d in
    let y = get_or nodes (k + 1) d in
    first_not_less (key_cmp y.key x.key) (ordering_then (nat_cmp y.slot x.slot) (nat_cmp y.pivot x.pivot)) (sorted k d low high)
