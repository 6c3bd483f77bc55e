-- The first list of a repetition. An item alone, if there is one, is first. Otherwise the last item, then the separator
-- before it, starts as soon as it can, and the parts are first.
-- The list before the last item is looked for only over spans that end sooner. This loses nothing: where a last item
-- and its separator take no character, the list before them is over the whole span, with fewer items, and so in the end
-- there is an item alone.
use Rattle.std.proofs.Common.{◌≡◌, refl, sym, ap, subst, ◌⊎◌, ◌+◌, ◌-◌, ◌<◌, ◌≤◌, ℕ, zero, suc, List, arith, Some, None, Option}
use Rattle.std.proofs.lemmas.Bool.{cases_order}
use mathlib.Core.Logic.{inl, inr}
use Rattle.ix_model.specs.declared.grammar.Grammar.{Grammar}
use Rattle.ix_model.specs.declared.grammar.Term.{One}
use Rattle.ix_model.specs.declared.grammar.Factor.{Factor}
use Rattle.ix_model.specs.Derivations.Trees.{Tree, Repeated, one, again, again_after, width}
use Rattle.ix_model.specs.Derivations.Heights.{height, repeated_height}
use Rattle.ix_model.specs.Derivations.Derives.{Derives, Repeats}
use Rattle.ix_model.specs.Derivations.Order.{Before, RepeatedBefore}
use Rattle.ix_tree_laws.proofs.Widths.{derived_width}
use Rattle.ix_model.proofs.Decide.{Least, least}
use Rattle.ix_tree_laws.proofs.Found.{BothFound, NotBoth, found_both, InSomeOrder, PairBefore, pair_before, Within, FirstTree, FoundTree, ListWithin, FoundList}

module _ (g : Grammar) (s : List ℕ) (b : ℕ) where
  -- an item alone is before all longer lists
  alone : (f : Factor) (sep : Option Factor) (i j : ℕ) (d : Tree) → FirstTree g s b (One f) i j d → FoundList g s b f sep i j
  alone f sep i j d y = inl (one d, record { holds = y.holds; before = others })
    where
      ends : (e : Tree) → (e ≡ d) ⊎ Before d e j → (one e ≡ one d) ⊎ RepeatedBefore (one d) (one e) j
      ends e (inl h) = inl (ap one h)
      ends e (inr h) = inr h

      others : (z : Repeated) → ListWithin g s b f sep i j z → (z ≡ one d) ⊎ RepeatedBefore (one d) z j
      others (one e) h = ends e (y.before e h)
      others (again es e) h = inr tt
      others (again_after es q e) h = inr tt

  -- ---- without a separator

  module _ (f : Factor) (i j : ℕ) (none : (d : Tree) → Within g s b (One f) i j d → ⊥) where
    -- a list, and the last item from k
    abbrev Ends : ℕ → Type 0
    Ends k = BothFound Repeated Tree (ListWithin g s b f None i k) (λ ds es. RepeatedBefore ds es k) (Within g s b (One f) k j) (λ d e. Before d e j)

    abbrev NoEnds : ℕ → Type 0
    NoEnds k = NotBoth Repeated Tree (ListWithin g s b f None i k) (λ ds es. RepeatedBefore ds es k) (Within g s b (One f) k j) (λ d e. Before d e j)

    -- a list over the whole span with an empty last item leads to a list with one item less
    no_items : ((k : ℕ) → k < j → NoEnds k) → (z : Repeated) → ListWithin g s b f None i j z → ⊥
    no_items never (one e) h = none e h
    no_items never (again_after es q e) h = cc h.0.1
    no_items never (again es e) ((_, l, a, c), high) =
        by_start (λ h. no_items never es (subst (λ (n : ℕ). Repeats g s es f None i n) h a, omega (arith, high))) (cases_order l j)
      where
        by_start : (l ≡ j → ⊥) → InSomeOrder l j → ⊥
        by_start shorter (inl h) = shorter h
        by_start shorter (inr (inl h)) = never l h es e (a, omega (arith, high)) (c, omega (arith, high))
        by_start shorter (inr (inr h)) = omega (arith, h, derived_width g s e (One f) l j c)

    items : Least Ends NoEnds j → FoundList g s b f None i j
    items (inr never) = inr (no_items never)
    items (inl (k, under, ((ds, x), (d, y)), less)) =
        inl (again ds d, record { holds = ((refl, k, x.holds.0, y.holds.0), omega (arith, x.holds.1, y.holds.1)); before = others })
      where
        others : (z : Repeated) → ListWithin g s b f None i j z → (z ≡ again ds d) ⊎ RepeatedBefore (again ds d) z j
        others (one e) h = absurd (none e h)
        others (again_after es q e) h = absurd (cc h.0.1)
        others (again es e) ((_, l, a, c), high) =
            let ha : repeated_height es ≤ b = omega (arith, high) in
            let hc : height e ≤ b = omega (arith, high) in
            ends (pair_before Repeated Tree width RepeatedBefore Before ds es d e k l j (derived_width g s d (One f) k j y.holds.0) (derived_width g s e (One f) l j c) (λ h. less l h es e (a, ha) (c, hc))
            (λ h. x.before es (subst (λ (z : ℕ). Repeats g s es f None i z) h a, ha))
            (λ h. y.before e (subst (λ (z : ℕ). Derives g s e (One f) z j) h c, hc)))
          where
            ends : ((es ≡ ds) × (e ≡ d)) ⊎ PairBefore Repeated Tree width RepeatedBefore Before ds d es e j → (again es e ≡ again ds d) ⊎ RepeatedBefore (again ds d) (again es e) j
            ends (inl (v, w)) = inl (cc (v, w))
            ends (inr h) = inr h

  -- where the first item is found, so is the first list
  pub found_list : (f : Factor) → ((i j : ℕ) → FoundTree g s b (One f) i j) → (i n j : ℕ) → j < n → FoundList g s b f None i j
  found_list f item i zero j h = absurd (omega (arith, h))
  found_list f item i (suc n) j h = by_item (item i j) (λ k l. found_list f item i n k (omega (arith, h, l)))
    where
      by_item : FoundTree g s b (One f) i j → ((k : ℕ) → k < j → FoundList g s b f None i k) → FoundList g s b f None i j
      by_item (inl (d, y)) sooner = alone f None i j d y
      by_item (inr none) sooner = items f i j none (least (Ends f i j none) (NoEnds f i j none) j (λ k l. found_both _ _ _ _ _ _ (sooner k l) (item k j)))

  -- ---- with a separator

  module _ (f p : Factor) (i j : ℕ) (none : (d : Tree) → Within g s b (One f) i j d → ⊥) where
    -- a list, and the separator from k to l
    abbrev Starts : ℕ → ℕ → Type 0
    Starts l k = BothFound Repeated Tree (ListWithin g s b f (Some p) i k) (λ ds es. RepeatedBefore ds es k) (Within g s b (One p) k l) (λ d e. Before d e l)

    abbrev NoStarts : ℕ → ℕ → Type 0
    NoStarts l k = NotBoth Repeated Tree (ListWithin g s b f (Some p) i k) (λ ds es. RepeatedBefore ds es k) (Within g s b (One p) k l) (λ d e. Before d e l)

    -- the last item from l, and the list and the separator before it
    record Three (l : ℕ) : Type 0 where
      pub last : Tree
      pub last_first : FirstTree g s b (One f) l j last
      pub at : ℕ
      pub under : at < j
      pub start : Starts l at
      pub less : (m : ℕ) → m < at → NoStarts l m

    abbrev NoThree : ℕ → Type 0
    NoThree l = (d : Tree) → Within g s b (One f) l j d → (k : ℕ) → k < j → NoStarts l k

    three_at : (l : ℕ) → FoundTree g s b (One f) l j → Least (Starts l) (NoStarts l) j → Three l ⊎ NoThree l
    three_at l (inr x) q = inr (λ d h. absurd (x d h))
    three_at l (inl x) (inr q) = inr (λ d h k m. q k m)
    three_at l (inl (d, y)) (inl (k, under, start, less)) = inl (record { last = d; last_first = y; at = k; under = under; start = start; less = less })

    -- a list over the whole span with an empty last item and separator leads to a list with one item less
    no_threes : ((l : ℕ) → l < suc j → NoThree l) → (z : Repeated) → ListWithin g s b f (Some p) i j z → ⊥
    no_threes never (one e) h = none e h
    no_threes never (again es e) h = cc h.0.0
    no_threes never (again_after es q e) ((p', same, k, l, a, c, d), high) =
        by_start (λ h. no_threes never es (subst (λ (n : ℕ). Repeats g s es f (Some p) i n) h a, omega (arith, high))) (cases_order k j)
      where
        wd : l + width e ≡ j
        wd = derived_width g s e (One f) l j d

        wc : k + width q ≡ l
        wc = derived_width g s q (One p') k l c

        x : p' ≡ p
        x = cc same

        by_start : (k ≡ j → ⊥) → InSomeOrder k j → ⊥
        by_start shorter (inl h) = shorter h
        by_start shorter (inr (inl h)) = never l (omega (arith, wd)) e (d, omega (arith, high)) k h es q (a, omega (arith, high)) (subst (λ z. Derives g s q (One z) k l) x c, omega (arith, high))
        by_start shorter (inr (inr h)) = omega (arith, h, wd, wc)

    threes : Least Three NoThree (suc j) → FoundList g s b f (Some p) i j
    threes (inr never) = inr (no_threes never)
    threes (inl (l, under, t, less)) = found t.start t.less
      where
        found : Starts l t.at → ((m : ℕ) → m < t.at → NoStarts l m) → FoundList g s b f (Some p) i j
        found ((ds, x), (q, y)) lower =
            inl (again_after ds q t.last, record { holds = ((p, refl, t.at, l, x.holds.0, y.holds.0, t.last_first.holds.0), omega (arith, x.holds.1, y.holds.1, t.last_first.holds.1)); before = others })
          where
            wd : l + width t.last ≡ j
            wd = derived_width g s t.last (One f) l j t.last_first.holds.0

            wq : t.at + width q ≡ l
            wq = derived_width g s q (One p) t.at l y.holds.0

            others : (z : Repeated) → ListWithin g s b f (Some p) i j z → (z ≡ again_after ds q t.last) ⊎ RepeatedBefore (again_after ds q t.last) z j
            others (one e) h = absurd (none e h)
            others (again es e) h = absurd (cc h.0.0)
            others (again_after es r e) ((p', same, k', l', a, c', d'), high) = by_last (cases_order l' l)
              where
                we : l' + width e ≡ j
                we = derived_width g s e (One f) l' j d'

                wr : k' + width r ≡ l'
                wr = derived_width g s r (One p') k' l' c'

                c : Derives g s r (One p) k' l'
                c = let z : p' ≡ p = cc same in subst (λ z. Derives g s r (One z) k' l') z c'

                ha : repeated_height es ≤ b
                ha = omega (arith, high)

                hc : height r ≤ b
                hc = omega (arith, high)

                hd : height e ≤ b
                hd = omega (arith, high)

                all_same : l' ≡ l → k' ≡ t.at → (es ≡ ds) ⊎ RepeatedBefore ds es t.at → (r ≡ q) ⊎ Before q r l → (e ≡ t.last) ⊎ Before t.last e j →
                    (again_after es r e ≡ again_after ds q t.last) ⊎ RepeatedBefore (again_after ds q t.last) (again_after es r e) j
                all_same h m (inr v) y z =
                    let n : t.at ≡ j - width t.last - width q = omega (arith, wd, wq) in
                    inr (inr (omega (arith, wd, we, h), inr (omega (arith, wq, wr, h, m), inl (subst (λ (x : ℕ). RepeatedBefore ds es x) n v))))
                all_same h m (inl v) (inr y) z =
                    let n : l ≡ j - width t.last = omega (arith, wd) in
                    inr (inr (omega (arith, wd, we, h), inr (omega (arith, wq, wr, h, m), inr (sym v, inl (subst (λ (x : ℕ). Before q r x) n y)))))
                all_same h m (inl v) (inl y) (inr z) = inr (inr (omega (arith, wd, we, h), inr (omega (arith, wq, wr, h, m), inr (sym v, inr (sym y, z)))))
                all_same h m (inl v) (inl y) (inl z) = inl (cc (v, y, z))

                by_separator : l' ≡ l → InSomeOrder k' t.at → (again_after es r e ≡ again_after ds q t.last) ⊎ RepeatedBefore (again_after ds q t.last) (again_after es r e) j
                by_separator h (inr (inl m)) = absurd (lower k' m es r (a, ha) (subst (λ (z : ℕ). Derives g s r (One p) k' z) h c, hc))
                by_separator h (inr (inr m)) = inr (inr (omega (arith, wd, we, h), inl (omega (arith, wd, we, wq, wr, h, m))))
                by_separator h (inl m) =
                    all_same h m (x.before es (subst (λ (z : ℕ). Repeats g s es f (Some p) i z) m a, ha))
                    (y.before r (subst (λ (z : ℕ). Derives g s r (One p) z l) m (subst (λ (z : ℕ). Derives g s r (One p) k' z) h c), hc))
                    (t.last_first.before e (subst (λ (z : ℕ). Derives g s e (One f) z j) h d', hd))

                by_last : InSomeOrder l' l → (again_after es r e ≡ again_after ds q t.last) ⊎ RepeatedBefore (again_after ds q t.last) (again_after es r e) j
                by_last (inr (inl h)) = absurd (less l' h e (d', hd) k' (omega (arith, h, under, wr)) es r (a, ha) (c, hc))
                by_last (inr (inr h)) = inr (inl (omega (arith, wd, we, h)))
                by_last (inl h) = by_separator h (cases_order k' t.at)

  -- where the first item and the first separator are found, so is the first list
  pub found_list_after : (f p : Factor) → ((i j : ℕ) → FoundTree g s b (One f) i j) → ((i j : ℕ) → FoundTree g s b (One p) i j) → (i n j : ℕ) → j < n → FoundList g s b f (Some p) i j
  found_list_after f p item sep i zero j h = absurd (omega (arith, h))
  found_list_after f p item sep i (suc n) j h = by_item (item i j) (λ k l. found_list_after f p item sep i n k (omega (arith, h, l)))
    where
      by_item : FoundTree g s b (One f) i j → ((k : ℕ) → k < j → FoundList g s b f (Some p) i k) → FoundList g s b f (Some p) i j
      by_item (inl (d, y)) sooner = alone f (Some p) i j d y
      by_item (inr none) sooner =
          threes f p i j none (least (Three f p i j none) (NoThree f p i j none) (suc j)
          (λ l m. three_at f p i j none l (item l j) (least (Starts f p i j none l) (NoStarts f p i j none l) j (λ k n. found_both _ _ _ _ _ _ (sooner k n) (sep k l)))))
