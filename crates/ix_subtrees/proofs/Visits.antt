-- One key's nodes get their marks.
use Rattle.std.proofs.Common.{◌≡◌, ◌≢◌, refl, ap, sym, subst, ◌∙◌, ◌⊎◌, ◌+◌, ◌≤◌, ◌<◌, ℕ, zero, suc, Bool, true, false, not, List, [], ◌∷◌, ◌++◌, length, arith, get_or, set, true≢false, cond}
use mathlib.Core.Logic.{inl, inr}
use Rattle.std.specs.Ordering.{is_lt}
use Rattle.std.specs.List.{Contains}
use Rattle.std.proofs.lemmas.Bool.{cases_lt, cases_eq}
use Rattle.std.proofs.lemmas.Cmp.{tied_itself}
use Rattle.std.proofs.lemmas.List.{get_or-set_same, get_or-set_other, length-set, length_push}
use Rattle.std.proofs.lemmas.List.Elements.{Contains-append_left, Contains-push, Contains-push_cases}
use Rattle.std.proofs.lemmas.List.Sums.{sum_by-set}
use Rattle.std.proofs.lemmas.List.Sorted.{sorted_far, ranks_by}
use Rattle.ix_subtrees.specs.declared.node.Key.{Key}
use Rattle.ix_subtrees.specs.declared.node.Node.{Node}
use Rattle.ix_subtrees.specs.Orders.{key_cmp}
use Rattle.ix_subtrees.specs.Nodes.{key_at, no_node, InOrder, IsFirstOfKey, IsMarked, unmarked, AreTogether, Visited}
use Rattle.ix_subtrees.proofs.Lists.{each_of}
use Rattle.ix_subtrees.proofs.Orders.{key_total, same_key}
use Rattle.ix_subtrees.proofs.Points.{neither}

-- ---- marks

pub marked_within : (marks : List Bool) (i : ℕ) → IsMarked marks i → i < length marks
marked_within [] i h = absurd (true≢false (sym h))
marked_within (b ∷ bs) zero h = omega arith
marked_within (b ∷ bs) (suc i) h = omega (arith, marked_within bs i h)

set_marked : (marks : List Bool) (n i : ℕ) → IsMarked marks i → IsMarked (set marks n true) i
set_marked marks n i h = elim (cases_eq i n) [
  | inl e ↦ subst (λ (z : ℕ). get_or (set marks z true) i false ≡ true) e (get_or-set_same marks i true false (marked_within marks i h))
  | inr e ↦ get_or-set_other marks n i true false e ∙ h
]

marked_from : (marks : List Bool) (n i : ℕ) → IsMarked (set marks n true) i → IsMarked marks i ⊎ (i ≡ n)
marked_from marks n i h = elim (cases_eq i n) [ inl e ↦ inr e | inr e ↦ inl (sym (get_or-set_other marks n i true false e) ∙ h) ]

unmarked_set : (marks : List Bool) (n : ℕ) → n < length marks → get_or marks n false ≡ false → unmarked (set marks n true) + 1 ≡ unmarked marks
unmarked_set marks n h e = let one : Bool → ℕ = λ b. cond (not b) 1 0 in omega (arith, sum_by-set one marks n true false h, ap one e)

-- ---- the loop over one key

-- the nodes from the key's first one to below `at` got their marks
pub record Visiting (nodes : List Node) (key : Key) (from at : ℕ) (marks : List Bool) (todo : List ℕ) (marks' : List Bool) (todo' : List ℕ) : Type 0 where
  pub lower : IsFirstOfKey nodes key from
  pub begun : from ≤ at
  pub within : at ≤ length nodes
  pub same : (i : ℕ) → from ≤ i → i < at → key_at nodes i ≡ key
  pub len : length marks' ≡ length marks
  pub kept : (i : ℕ) → IsMarked marks i → IsMarked marks' i
  pub only : (i : ℕ) → IsMarked marks' i → IsMarked marks i ⊎ ((from ≤ i) × (i < at))
  pub run : (i : ℕ) → from ≤ i → i < at → IsMarked marks' i
  pub owed : (i : ℕ) → IsMarked marks' i → IsMarked marks i ⊎ Contains todo' i
  pub still : (i : ℕ) → Contains todo i → Contains todo' i
  pub fresh : (i : ℕ) → Contains todo' i → Contains todo i ⊎ ((i < length nodes) × IsMarked marks' i)
  pub paid : unmarked marks' + length todo' ≡ unmarked marks + length todo

module _ (nodes : List Node) (key : Key) (from : ℕ) (marks : List Bool) (todo : List ℕ) where
  pub visiting_none : IsFirstOfKey nodes key from → Visiting nodes key from from marks todo marks todo
  visiting_none h = record {
    lower = h;
    begun = omega arith;
    within = h.within;
    same = λ i a b. absurd (omega (arith, a, b));
    len = refl;
    kept = λ i m. m;
    only = λ i m. inl m;
    run = λ i a b. absurd (omega (arith, a, b));
    owed = λ i m. inl m;
    still = λ i m. m;
    fresh = λ i m. inl m;
    paid = refl;
  }

  pub visiting_next : (at : ℕ) (marks' : List Bool) (todo' : List ℕ) (marks'' : List Bool) (todo'' : List ℕ) → length marks ≡ length nodes → Visiting nodes key from at marks todo marks' todo' → at < length nodes → key_at nodes at ≡ key → get_or marks' at false ≡ false →
      marks'' ≡ set marks' at true → todo'' ≡ todo' ++ at ∷ [] → Visiting nodes key from (at + 1) marks todo marks'' todo''
  visiting_next at marks' todo' marks'' todo'' l v b e f m t = subst (λ (z : List Bool). Visiting nodes key from (at + 1) marks todo z todo'') (sym m) (subst (λ (z : List ℕ). Visiting nodes key from (at + 1) marks todo (set marks' at true) z) (sym t) r)
    where
      inside : at < length marks'
      inside = omega (arith, v.len, l, b)

      mine : IsMarked (set marks' at true) at
      mine = get_or-set_same marks' at true false inside

      r : Visiting nodes key from (at + 1) marks todo (set marks' at true) (todo' ++ at ∷ [])
      r = record {
        lower = v.lower;
        begun = omega (arith, v.begun);
        within = omega (arith, b);
        same = λ i g h. elim (cases_lt i at) [ inl k ↦ v.same i g k | inr k ↦ ap (key_at nodes) (omega (arith, k, h)) ∙ e ];
        len = length-set marks' at true ∙ v.len;
        kept = λ i g. set_marked marks' at i (v.kept i g);
        only = λ i g. elim (marked_from marks' at i g) [ inl h ↦ elim (v.only i h) [ inl k ↦ inl k | inr k ↦ inr (k.0, omega (arith, k.1)) ] | inr h ↦ inr (omega (arith, h, v.begun), omega (arith, h)) ];
        run = λ i g h. elim (cases_lt i at) [ inl k ↦ set_marked marks' at i (v.run i g k) | inr k ↦ subst (λ (z : ℕ). IsMarked (set marks' at true) z) (omega (arith, k, h)) mine ];
        owed = λ i g. elim (marked_from marks' at i g) [
          | inl h ↦ elim (v.owed i h) [ inl k ↦ inl k | inr k ↦ inr (Contains-append_left todo' (at ∷ []) i k) ]
          | inr h ↦ inr (subst (λ (z : ℕ). Contains (todo' ++ at ∷ []) z) (sym h) (Contains-push todo' at))
        ];
        still = λ i g. Contains-append_left todo' (at ∷ []) i (v.still i g);
        fresh = λ i g. elim (Contains-push_cases todo' at i g) [
          | inl h ↦ elim (v.fresh i h) [ inl k ↦ inl k | inr k ↦ inr (k.0, set_marked marks' at i k.1) ]
          | inr n ↦ inr (subst (λ (z : ℕ). z < length nodes) n b, subst (λ (z : ℕ). IsMarked (set marks' at true) z) n mine)
        ];
        paid = omega (arith, v.paid, unmarked_set marks' at inside f, length_push todo' at);
      }

  -- the loop stops at the end, at another key, or at a marked node
  pub visited_all : (at : ℕ) (marks' : List Bool) (todo' : List ℕ) → InOrder nodes → AreTogether nodes marks → Visiting nodes key from at marks todo marks' todo' →
      (length nodes ≤ at) ⊎ ((key_at nodes at ≢ key) ⊎ IsMarked marks' at) → Visited nodes (key ∷ []) marks todo marks' todo'
  visited_all at marks' todo' order together v stop = record {
    len = v.len;
    kept = v.kept;
    only = λ i g. elim (v.only i g) [ inl h ↦ inl h | inr h ↦ inr (omega (arith, h.1, v.within), (0, omega arith, sym (v.same i h.0 h.1))) ];
    there = λ i b m. there i b (each_of (λ (k : Key). k ≡ key) (key ∷ []) (key_at nodes i) (refl, tt) m);
    owed = v.owed;
    still = v.still;
    fresh = v.fresh;
    paid = v.paid;
    together = λ i j b d e m. elim (v.only i m) [ inl h ↦ v.kept j (together i j b d e h) | inr h ↦ there j d (sym e ∙ v.same i h.0 h.1) ];
  }
    where
      -- between the key's first node and another of its nodes there are no others
      between : (i : ℕ) → i < length nodes → key_at nodes i ≡ key → at ≤ i → key_at nodes at ≡ key
      between i b e h =
          let before : is_lt (key_cmp (key_at nodes i) (key_at nodes at)) ≡ false = sorted_far (λ (x y : Node). is_lt (key_cmp x.key y.key)) (ranks_by key_total (λ (n : Node). n.key)) nodes order at i no_node h b in
          let after : is_lt (key_cmp (key_at nodes at) key) ≡ false = v.lower.point.1 at no_node v.begun (omega (arith, h, b)) in
          same_key (key_at nodes at) key (neither key_total (key_at nodes at) key after (subst (λ (k : Key). is_lt (key_cmp k (key_at nodes at)) ≡ false) e before))

      beyond : (i : ℕ) → i < length nodes → key_at nodes i ≡ key → at ≤ i → (length nodes ≤ at) ⊎ ((key_at nodes at ≢ key) ⊎ IsMarked marks' at) → IsMarked marks' i
      beyond i b e h (inl s) = absurd (omega (arith, b, h, s))
      beyond i b e h (inr (inl s)) = absurd (s (between i b e h))
      beyond i b e h (inr (inr s)) = elim (v.only at s) [ inl m ↦ v.kept i (together at i (omega (arith, h, b)) b (between i b e h ∙ sym e) m) | inr m ↦ absurd (omega (arith, m.1)) ]

      -- no node before the first one has the key
      not_below : (i : ℕ) → key_at nodes i ≡ key → i < from → IsMarked marks' i
      not_below i e h = absurd (true≢false (sym (v.lower.point.0 i no_node (omega arith) h) ∙ ap (λ (k : Key). is_lt (key_cmp k key)) e ∙ ap is_lt (tied_itself key_total key)))

      there : (i : ℕ) → i < length nodes → key_at nodes i ≡ key → IsMarked marks' i
      there i b e = elim (cases_lt i from) [ inl h ↦ not_below i e h | inr h ↦ elim (cases_lt i at) [ inl k ↦ v.run i h k | inr k ↦ beyond i b e k stop ] ]
