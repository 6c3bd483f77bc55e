-- The subtrees of the closure of S: S, "a"; . on any number of `a`.
use Rattle.std.proofs.Common.{rules, ◌≡◌, ◌≢◌, refl, ap, sym, subst, ◌∙◌, ◌⊎◌, ◌+◌, ◌-◌, ◌^◌, ◌≤◌, ◌<◌, ℕ, zero, suc, List, [], ◌∷◌, ◌++◌, length, replicate, take, true, Option, Some, None, codes, arith, get_or}
use mathlib.Core.Logic.{inl, inr}
use Rattle.std.specs.Prelude.{AllPairs}
use Rattle.std.specs.List.{All, Contains}
use Rattle.std.proofs.lemmas.List.{append_assoc, length-replicate, drop-replicate, take-replicate}
use Rattle.std.proofs.lemmas.List.Elements.{All-from_recursion, All-append, All-weaker, All-push, All-get_or, Contains-append_left, Contains-append_right, Contains-append_cases}
use Rattle.std.proofs.lemmas.List.Quantifiers.{all_pairs_push}
use Rattle.ix_model.specs.declared.grammar.Mark.{Mark}
use Rattle.ix_model.specs.declared.rules.Sym.{Sym}
use Rattle.ix_model.specs.declared.rules.Sym.TheVariants as S
use Rattle.ix_model.specs.declared.sub.Sub.{Sub}
use Rattle.ix_model.specs.Expansion.Planned.{IsPlanned}
use Rattle.ix_model.specs.Expansion.Slots.{info_at, sym_after}
use Rattle.ix_model.specs.Matching.Terminals.{StandsAt}
use Rattle.ix_model.specs.Expansion.FlatDerives.{IsTerminal}
use Rattle.ix_model.specs.Expansion.SlotPlaces.{HasNext, IsFirstSlot, IsLastSlot}
use Rattle.ix_model.specs.Closure.Closed.{Called, start, by_edge, Desc, begun, arrived, Edge, waiting, End, ended, Part, empty, scanned, inserted, joined}
use Rattle.ix_model.specs.Closure.Useful.{sub_at}
use Rattle.ix_examples.specs.SmallPlans.{call, literal}
use Rattle.ix_closure_laws.proofs.ClosedWithin.{part_within}
use Rattle.ix_model.proofs.SlotReaders.{first_reads, last_reads, next_reads}
use Rattle.ix_examples.proofs.SmallPlans.{literal_stands}
use Rattle.ix_subtrees.specs.Examples.{left_recursive_subs}
use Rattle.ix_examples.specs.TestPlans.{left_recursive}
use Rattle.ix_subtrees.specs.Laws.{LeftRecursiveIsListed, LeftRecursiveIsListedOnce}
use Rattle.ix_subtrees.proofs.Lists.{each_of}
use Rattle.ix_subtrees.proofs.SmallSets.{same_sub, PartOf}

-- what one more letter adds to the list
abbrev subs_to_next : ℕ → List Sub
subs_to_next m = sub_at 2 0 m (m + 1) ∷ sub_at 1 0 0 (m + 1) ∷ []

-- ---- it is a plan

planned_on_nothing : IsPlanned (left_recursive 0)
planned_on_nothing = search rules

pub planned_left : (n : ℕ) → n < 2 ^ 32 → IsPlanned (left_recursive n)
planned_left n h = record {
  numbered = refl;
  first_named = planned_on_nothing.first_named;
  marked = refl;
  named = planned_on_nothing.named;
  names_within = planned_on_nothing.names_within;
  symbols = planned_on_nothing.symbols;
  rules_fit = planned_on_nothing.rules_fit;
  slots_fit = planned_on_nothing.slots_fit;
  text_fits = omega (arith, length-replicate {A = ℕ} n 97, h);
}

-- ---- each subtree of the closure has one of three forms

module _ (n : ℕ) (small : n < 2 ^ 32) where
  -- S stands behind slot 0 and the letter behind slot 1
  abbrev pub IsNext : ℕ → ℕ → Sym → Type 0
  IsNext s after x = ((s ≡ 0) × (after ≡ 1) × (x ≡ call 0)) ⊎ ((s ≡ 1) × (after ≡ 2) × (x ≡ literal 0))

  pub next_left : (s after : ℕ) (x : Sym) → HasNext (left_recursive n) s after x → IsNext s after x
  next_left s after x h = let r = next_reads (left_recursive n) (planned_left n small) s after x h in go s r.0 r.1 r.2
    where
      go : (s : ℕ) → s < 4 → sym_after (left_recursive n) s ≡ Some x → after ≡ s + 1 → IsNext s after x
      go zero h e f = inl (refl, f, sym (cc e))
      go (suc zero) h e f = inr (refl, f, sym (cc e))
      go (suc (suc zero)) h e f = absurd (cc e)
      go (suc (suc (suc zero))) h e f = absurd (cc e)
      go (suc (suc (suc (suc s)))) h e f = absurd (omega (arith, h))

  first_left : (s r : ℕ) → IsFirstSlot (left_recursive n) s r → (s ≡ 0) ⊎ (s ≡ 3)
  first_left s r h = let i = first_reads (left_recursive n) s r h in go s i.0 i.2
    where
      go : (s : ℕ) → s < 4 → (info_at (left_recursive n) s).dot ≡ 0 → (s ≡ 0) ⊎ (s ≡ 3)
      go zero h e = inl refl
      go (suc zero) h e = absurd (cc e)
      go (suc (suc zero)) h e = absurd (cc e)
      go (suc (suc (suc zero))) h e = inr refl
      go (suc (suc (suc (suc s)))) h e = absurd (omega (arith, h))

  pub last_left : (s r : ℕ) → IsLastSlot (left_recursive n) s r → (s ≡ 2) ⊎ (s ≡ 3)
  last_left s r h = let i = last_reads (left_recursive n) s r h in go s i.0 i.2
    where
      go : (s : ℕ) → s < 4 → sym_after (left_recursive n) s ≡ None → (s ≡ 2) ⊎ (s ≡ 3)
      go zero h e = absurd (cc e)
      go (suc zero) h e = absurd (cc e)
      go (suc (suc zero)) h e = inl refl
      go (suc (suc (suc zero))) h e = inr refl
      go (suc (suc (suc (suc s)))) h e = absurd (omega (arith, h))

  first_and_last : (s : ℕ) → (s ≡ 0) ⊎ (s ≡ 3) → (s ≡ 2) ⊎ (s ≡ 3) → s ≡ 3
  first_and_last s f (inr l) = l
  first_and_last s (inl f) (inl l) = absurd (omega (arith, f, l))
  first_and_last s (inr f) (inl l) = f

  -- the empty alternative, S up to some position, or the letter behind an S
  abbrev pub IsOfLeftRecursion : ℕ → ℕ → ℕ → ℕ → Type 0
  IsOfLeftRecursion s l k r = (l ≡ 0) × (((s ≡ 3) × (k ≡ 0) × (r ≡ 0)) ⊎ (((s ≡ 1) × (k ≡ 0)) ⊎ ((s ≡ 2) × (r ≡ k + 1))))

  not_before : (s l k r : ℕ) → IsOfLeftRecursion s l k r → s ≢ 0
  not_before s l k r (z, inl h) e = absurd (omega (arith, h.0, e))
  not_before s l k r (z, inr (inl h)) e = absurd (omega (arith, h.0, e))
  not_before s l k r (z, inr (inr h)) e = absurd (omega (arith, h.0, e))

  waits : (q p s after l : ℕ) (mark : Option Mark) → (l ≡ 0) × (s ≡ 0 → p ≡ 0) → IsNext s after (S.Rule q mark) → (p ≡ 0) × (l ≡ 0)
  waits q p s after l mark d (inl h) = (d.1 h.0, d.0)
  waits q p s after l mark d (inr h) = absurd (cc h.2)

  passes : (s l k after r : ℕ) (x : Sym) → l ≡ 0 → IsNext s after x → IsTerminal (left_recursive n) x k r → IsOfLeftRecursion after l k r
  passes s l k after r x z (inl h) t = absurd (cc (h.2, t.3))
  passes s l k after r x z (inr h) t =
      let m = literal_stands (left_recursive n) 0 k r (codes "a") refl (subst (λ (y : Sym). IsTerminal (left_recursive n) y k r) h.2 t) in
      (z, inr (inr (h.1, omega (arith, m.0))))

  no_insertion : (s after i : ℕ) → IsNext s after (S.Insert i) → ⊥
  no_insertion s after i (inl h) = absurd (cc h.2)
  no_insertion s after i (inr h) = absurd (cc h.2)

  joins : (q k s l r after : ℕ) (mark : Option Mark) → (k ≡ 0) × (l ≡ 0) → IsNext s after (S.Rule q mark) → IsOfLeftRecursion after l k r
  joins q k s l r after mark e (inl h) = (e.1, inr (inl (h.1, e.0)))
  joins q k s l r after mark e (inr h) = absurd (cc h.2)

  mutual
    called_left : (q p : ℕ) → Called (left_recursive n) q p → p ≡ 0
    called_left q p start = refl
    called_left q p (by_edge rule at slot left e) = (edge_left rule at slot left e).0

    desc_left : (s l p : ℕ) → Desc (left_recursive n) s l p → (l ≡ 0) × (s ≡ 0 → p ≡ 0)
    desc_left s l p (begun rule at slot c f) = let z = called_left rule at c in (z, λ e. z)
    desc_left s l p (arrived slot left pivot right h) =
        let t = part_left slot left pivot right h in
        (t.0, λ e. absurd (not_before slot left pivot right t e))

    edge_left : (q p s l : ℕ) → Edge (left_recursive n) q p s l → (p ≡ 0) × (l ≡ 0)
    edge_left q p s l (waiting slot left at after rule mark d h) = waits rule at slot after left mark (desc_left slot left at d) (next_left slot after (S.Rule rule mark) h)

    pub part_left : (s l k r : ℕ) → Part (left_recursive n) s l k r → IsOfLeftRecursion s l k r
    part_left s l k r (empty rule at slot c f g) =
        let z = called_left rule at c in
        (z, inl (first_and_last slot (first_left slot rule f) (last_left slot rule g), z, z))
    part_left s l k r (scanned slot left pivot after right x d h t) = passes slot left pivot after right x (desc_left slot left pivot d).0 (next_left slot after x h) t
    part_left s l k r (inserted slot left pivot after i d h) = absurd (no_insertion slot after i (next_left slot after (S.Insert i) h))
    part_left s l k r (joined rule pivot slot left right after mark e f h) = joins rule pivot slot left right after mark (edge_left rule pivot slot left e) (next_left slot after (S.Rule rule mark) h)

  -- ---- each of these is in the closure

  pub next_0 : HasNext (left_recursive n) 0 1 (call 0)
  next_0 = (0, 0, 0, _, refl, refl, (_, _, refl, refl, refl), refl)

  pub next_1 : HasNext (left_recursive n) 1 2 (literal 0)
  next_1 = (0, 0, 1, _, refl, refl, (_, _, refl, refl, refl), refl)

  first_3 : IsFirstSlot (left_recursive n) 3 0
  first_3 = (1, _, refl, (_, _, refl, refl, refl))

  pub last_2 : IsLastSlot (left_recursive n) 2 0
  last_2 = (0, _, refl, (_, _, refl, refl, refl))

  pub last_3 : IsLastSlot (left_recursive n) 3 0
  last_3 = (1, _, refl, (_, _, refl, refl, refl))

  edge : Edge (left_recursive n) 0 0 0 0
  edge = waiting 0 0 0 1 0 None (begun 0 0 0 start (0, _, refl, (_, _, refl, refl, refl))) next_0

  letter_stands : (p : ℕ) → p < n → StandsAt (replicate n 97) (codes "a") p (p + 1)
  letter_stands p h =
      (refl, omega (arith, length-replicate {A = ℕ} n 97, h), ap (take 1) (drop-replicate p n 97) ∙ take-replicate 1 (n - p) 97 (omega (arith, h)))

  pub empty_part : Part (left_recursive n) 3 0 0 0
  empty_part = empty 0 0 3 start first_3 last_3

  pub part_up_to : (p : ℕ) → End (left_recursive n) 0 0 p → Part (left_recursive n) 1 0 0 p
  part_up_to p e = joined 0 0 0 0 p 1 None edge e next_0

  pub letter_part : (p : ℕ) → p < n → End (left_recursive n) 0 0 p → Part (left_recursive n) 2 0 p (p + 1)
  letter_part p h e = scanned 1 0 p 2 (p + 1) (literal 0) (arrived 1 0 0 p (part_up_to p e)) next_1 (0, true, _, refl, refl, letter_stands p h)

  pub end_at : (p : ℕ) → p ≤ n → End (left_recursive n) 0 0 p
  end_at zero h = ended 3 0 0 0 (arrived 3 0 0 0 empty_part) last_3
  end_at (suc p) h =
      let next : p + 1 ≡ suc p = omega arith in
      subst (End (left_recursive n) 0 0) next (ended 2 0 (p + 1) 0 (arrived 2 0 p (p + 1) (letter_part p (omega (arith, h)) (end_at p (omega (arith, h))))) last_2)

  pub listed_part : (m : ℕ) → m ≤ n → (sub : Sub) → Contains (left_recursive_subs m) sub → PartOf (left_recursive n) sub
  listed_part zero h sub c = each_of (PartOf (left_recursive n)) (left_recursive_subs 0) sub (empty_part, (part_up_to 0 (end_at 0 (omega arith)), tt)) c
  listed_part (suc m) h sub c = go (Contains-append_cases (left_recursive_subs m) (subs_to_next m) sub c) (listed_part m (omega (arith, h)) sub)
    where
      go : Contains (left_recursive_subs m) sub ⊎ Contains (subs_to_next m) sub → (Contains (left_recursive_subs m) sub → PartOf (left_recursive n) sub) → PartOf (left_recursive n) sub
      go (inl d) old = old d
      go (inr d) old = each_of (PartOf (left_recursive n)) (subs_to_next m) sub (letter_part m (omega (arith, h)) (end_at m (omega (arith, h))), (part_up_to (m + 1) (end_at (m + 1) (omega (arith, h))), tt)) d

-- ---- and each is in the list

at_most_or_next : (p m : ℕ) → p ≤ m + 1 → (p ≤ m) ⊎ (m + 1 ≡ p)
at_most_or_next p m h = grind arith

pub empty_listed : (m : ℕ) → Contains (left_recursive_subs m) (sub_at 3 0 0 0)
empty_listed zero = (0, omega arith, refl)
empty_listed (suc m) = Contains-append_left (left_recursive_subs m) (subs_to_next m) (sub_at 3 0 0 0) (empty_listed m)

pub listed_up_to : (m p : ℕ) → p ≤ m → Contains (left_recursive_subs m) (sub_at 1 0 0 p)
listed_up_to zero zero h = (1, omega arith, refl)
listed_up_to zero (suc p) h = absurd (omega (arith, h))
listed_up_to (suc m) p h = go (at_most_or_next p m (omega (arith, h))) (listed_up_to m p)
  where
    go : (p ≤ m) ⊎ (m + 1 ≡ p) → (p ≤ m → Contains (left_recursive_subs m) (sub_at 1 0 0 p)) → Contains (left_recursive_subs (suc m)) (sub_at 1 0 0 p)
    go (inl o) old = Contains-append_left (left_recursive_subs m) (subs_to_next m) (sub_at 1 0 0 p) (old o)
    go (inr e) old = Contains-append_right (left_recursive_subs m) (subs_to_next m) (sub_at 1 0 0 p) (1, omega arith, ap (sub_at 1 0 0) e)

pub letter_listed : (m p : ℕ) → p < m → Contains (left_recursive_subs m) (sub_at 2 0 p (p + 1))
letter_listed zero p h = absurd (omega (arith, h))
letter_listed (suc m) p h = go (at_most_or_next (p + 1) m (omega (arith, h))) (letter_listed m p)
  where
    go : (p + 1 ≤ m) ⊎ (m + 1 ≡ p + 1) → (p < m → Contains (left_recursive_subs m) (sub_at 2 0 p (p + 1))) → Contains (left_recursive_subs (suc m)) (sub_at 2 0 p (p + 1))
    go (inl o) old = Contains-append_left (left_recursive_subs m) (subs_to_next m) (sub_at 2 0 p (p + 1)) (old (omega (arith, o)))
    go (inr e) old =
        let same : m ≡ p = omega (arith, e) in
        Contains-append_right (left_recursive_subs m) (subs_to_next m) (sub_at 2 0 p (p + 1)) (0, omega arith, ap (λ (z : ℕ). sub_at 2 0 z (z + 1)) same)

pub parts_left : LeftRecursiveIsListed
parts_left n small sub = (listed_part n small n (omega arith) sub, all)
  where
    all : PartOf (left_recursive n) sub → Contains (left_recursive_subs n) sub
    all h = go (part_left n small sub.slot sub.left sub.pivot sub.right h)
      where
        within : sub.right ≤ n
        within = omega (arith, (part_within (left_recursive n) (planned_left n small) sub.slot sub.left sub.pivot sub.right h).3, length-replicate {A = ℕ} n 97)

        by : (x : Sub) → Contains (left_recursive_subs n) x → x ≡ sub → Contains (left_recursive_subs n) sub
        by x c e = subst (λ (z : Sub). Contains (left_recursive_subs n) z) e c

        go : IsOfLeftRecursion n small sub.slot sub.left sub.pivot sub.right → Contains (left_recursive_subs n) sub
        go (z, inl t) = by (sub_at 3 0 0 0) (empty_listed n) (sym (same_sub sub.slot sub.left sub.pivot sub.right 3 0 0 0 t.0 z t.1 t.2))
        go (z, inr (inl t)) = by (sub_at 1 0 0 sub.right) (listed_up_to n sub.right within) (sym (same_sub sub.slot sub.left sub.pivot sub.right 1 0 0 sub.right t.0 z t.1 refl))
        go (z, inr (inr t)) =
            by (sub_at 2 0 sub.pivot (sub.pivot + 1)) (letter_listed n sub.pivot (omega (arith, within, t.1)))
            (sym (same_sub sub.slot sub.left sub.pivot sub.right 2 0 sub.pivot (sub.pivot + 1) t.0 z refl t.1))

-- ---- each once, since those of each position come after all up to the one before

within_listed : (m : ℕ) → All (λ (sub : Sub). sub.right ≤ m) (left_recursive_subs m)
within_listed zero = All-from_recursion (λ (sub : Sub). sub.right ≤ 0) (left_recursive_subs 0) (omega arith, (omega arith, tt))
within_listed (suc m) =
    All-append (λ (sub : Sub). sub.right ≤ suc m) (left_recursive_subs m) (subs_to_next m)
    (All-weaker (λ (sub : Sub). sub.right ≤ m) (λ (sub : Sub). sub.right ≤ suc m) (λ sub h. omega (arith, h)) (left_recursive_subs m) (within_listed m))
    (All-from_recursion (λ (sub : Sub). sub.right ≤ suc m) (subs_to_next m) (omega arith, (omega arith, tt)))

once_on_nothing : AllPairs (λ x y. x ≢ y) (left_recursive_subs 0)
once_on_nothing i zero d h k = absurd (omega (arith, h))
once_on_nothing zero (suc zero) d h k = λ e. absurd (omega (arith, ap (λ (sub : Sub). sub.slot) e))
once_on_nothing (suc i) (suc zero) d h k = absurd (omega (arith, h))
once_on_nothing i (suc (suc j)) d h k = absurd (omega (arith, k))

pub once_left : LeftRecursiveIsListedOnce
once_left zero = once_on_nothing
once_left (suc m) =
    subst (λ (xs : List Sub). AllPairs (λ x y. x ≢ y) xs) (append_assoc old (letter ∷ []) (up_to ∷ []))
    (all_pairs_push (λ x y. x ≢ y) (old ++ letter ∷ []) up_to (all_pairs_push (λ x y. x ≢ y) old letter (once_left m) letter_new) up_to_new)
  where
    old : List Sub
    old = left_recursive_subs m

    letter : Sub
    letter = sub_at 2 0 m (m + 1)

    up_to : Sub
    up_to = sub_at 1 0 0 (m + 1)

    letter_new : (k : ℕ) (d : Sub) → k < length old → get_or old k d ≢ letter
    letter_new k d h e = absurd (omega (arith, All-get_or (λ (sub : Sub). sub.right ≤ m) old k d h (within_listed m), ap (λ (sub : Sub). sub.right) e))

    up_to_new : (k : ℕ) (d : Sub) → k < length (old ++ letter ∷ []) → get_or (old ++ letter ∷ []) k d ≢ up_to
    up_to_new k d h e = All-get_or (λ (sub : Sub). sub ≢ up_to) (old ++ letter ∷ []) k d h (All-push (λ (sub : Sub). sub ≢ up_to) old letter others letter_other) e
      where
        others : All (λ (sub : Sub). sub ≢ up_to) old
        others = All-weaker (λ (sub : Sub). sub.right ≤ m) (λ (sub : Sub). sub ≢ up_to) (λ sub h e. absurd (omega (arith, h, ap (λ (s : Sub). s.right) e))) old (within_listed m)

        letter_other : letter ≢ up_to
        letter_other e = absurd (omega (arith, ap (λ (sub : Sub). sub.slot) e))
