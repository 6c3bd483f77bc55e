-- Of two trees of one term over one span, one is before the other or they are equal.
use Rattle.std.proofs.Common.{◌≡◌, refl, ap, sym, subst, ◌∙◌, ◌⊎◌, ◌+◌, ◌-◌, ◌<◌, ◌≤◌, ℕ, List, Option, arith}
use mathlib.Core.Logic.{inl, inr}
use Rattle.ix_model.specs.declared.grammar.Grammar.{Grammar}
use Rattle.ix_model.specs.declared.grammar.Term.{Term, One}
use Rattle.ix_model.specs.declared.grammar.Factor.{Factor, Call, Group}
use Rattle.ix_model.specs.Grammars.Written.{IsNamed, IsOfRule}
use Rattle.ix_model.specs.Derivations.Trees.{Tree, text, insertion, node, group, present, absent, no_item, list, Trees, no_tree, and, Repeated, one, again, again_after, tree_count, width}
use Rattle.ix_model.specs.Derivations.Heights.{heights}
use Rattle.ix_model.specs.Derivations.Derives.{Derives, DerivesFirst, Repeats, Calls, IsGroup}
use Rattle.ix_model.specs.Derivations.Order.{Before, AllBefore, RepeatedBefore}
use Rattle.ix_model.specs.Grammars.Names.{HasUniqueNames}
use Rattle.ix_model.proofs.Forms.{derived_form, same_opt, same_groups, same_item}
use Rattle.ix_tree_laws.proofs.Widths.{derived_width}

abbrev Tri : ℕ → ℕ → Type 0
Tri a b = (a < b) ⊎ ((a ≡ b) ⊎ (b < a))

tri : (a b : ℕ) → Tri a b
tri a b = grind arith

abbrev Compared : Tree → Tree → ℕ → Type 0
Compared d e end = (d ≡ e) ⊎ (Before d e end ⊎ Before e d end)

abbrev ComparedAll : Trees → Trees → ℕ → Type 0
ComparedAll ds es end = (ds ≡ es) ⊎ (AllBefore ds es end ⊎ AllBefore es ds end)

abbrev ComparedRepeated : Repeated → Repeated → ℕ → Type 0
ComparedRepeated ds es end = (ds ≡ es) ⊎ (RepeatedBefore ds es end ⊎ RepeatedBefore es ds end)

by_number : (r a b : ℕ) (ds es : Trees) (end : ℕ) → Tri a b → (a ≡ b → ComparedAll ds es end) → Compared (group a ds) (group b es) end
by_number r a b ds es end (inl h) k = inr (inl (inl h))
by_number r a b ds es end (inr (inr h)) k = inr (inr (inl h))
by_number r a b ds es end (inr (inl h)) k = same (k h)
  where
    same : ComparedAll ds es end → Compared (group a ds) (group b es) end
    same (inl p) = inl (cc (h, p))
    same (inr (inl p)) = inr (inl (inr (h, p)))
    same (inr (inr p)) = inr (inr (inr (sym h, p)))

by_height : (r q a b : ℕ) (ds es : Trees) (end : ℕ) → r ≡ q → Tri (heights ds) (heights es) → Tri a b → (a ≡ b → ComparedAll ds es end) → Compared (node r a ds) (node q b es) end
by_height r q a b ds es end e (inl h) n k = inr (inl (inl h))
by_height r q a b ds es end e (inr (inr h)) n k = inr (inr (inl h))
by_height r q a b ds es end e (inr (inl h)) (inl n) k = inr (inl (inr (h, inl n)))
by_height r q a b ds es end e (inr (inl h)) (inr (inr n)) k = inr (inr (inr (sym h, inl n)))
by_height r q a b ds es end e (inr (inl h)) (inr (inl n)) k = same (k n)
  where
    same : ComparedAll ds es end → Compared (node r a ds) (node q b es) end
    same (inl p) = inl (cc (e, n, p))
    same (inr (inl p)) = inr (inl (inr (h, inr (n, p))))
    same (inr (inr p)) = inr (inr (inr (sym h, inr (sym n, p))))

by_present : (d e : Tree) (end : ℕ) → Compared d e end → Compared (present d) (present e) end
by_present d e end (inl p) = inl (ap present p)
by_present d e end (inr (inl p)) = inr (inl p)
by_present d e end (inr (inr p)) = inr (inr p)

by_list : (ds es : Repeated) (end : ℕ) → ComparedRepeated ds es end → Compared (list ds) (list es) end
by_list ds es end (inl p) = inl (ap list p)
by_list ds es end (inr (inl p)) = inr (inl p)
by_list ds es end (inr (inr p)) = inr (inr p)

by_last : (ds es : Trees) (d e : Tree) (end : ℕ) → width d ≤ end → width e ≤ end → Tri (end - width d) (end - width e) → (width d ≡ width e → ComparedAll ds es (end - width d)) → (width d ≡ width e → Compared d e end) → ComparedAll (and ds d) (and es e) end
by_last ds es d e end m n (inl h) k l = inr (inl (inl h))
by_last ds es d e end m n (inr (inr h)) k l = inr (inr (inl h))
by_last ds es d e end m n (inr (inl h)) k l = same (k w) (l w)
  where
    w : width d ≡ width e
    w = omega (arith, m, n, h)

    same : ComparedAll ds es (end - width d) → Compared d e end → ComparedAll (and ds d) (and es e) end
    same (inl p) (inl q) = inl (cc (p, q))
    same (inl p) (inr (inl q)) = inr (inl (inr (w, inr (p, q))))
    same (inl p) (inr (inr q)) = inr (inr (inr (sym w, inr (sym p, q))))
    same (inr (inl p)) q = inr (inl (inr (w, inl p)))
    same (inr (inr p)) q = inr (inr (inr (sym w, inl (subst (λ (x : ℕ). AllBefore es ds x) h p))))

by_one : (d e : Tree) (end : ℕ) → Compared d e end → ComparedRepeated (one d) (one e) end
by_one d e end (inl p) = inl (ap one p)
by_one d e end (inr (inl p)) = inr (inl p)
by_one d e end (inr (inr p)) = inr (inr p)

by_again : (ds es : Repeated) (d e : Tree) (end : ℕ) → width d ≤ end → width e ≤ end → Tri (end - width d) (end - width e) → (width d ≡ width e → ComparedRepeated ds es (end - width d)) → (width d ≡ width e → Compared d e end) → ComparedRepeated (again ds d) (again es e) end
by_again ds es d e end m n (inl h) k l = inr (inl (inl h))
by_again ds es d e end m n (inr (inr h)) k l = inr (inr (inl h))
by_again ds es d e end m n (inr (inl h)) k l = same (k w) (l w)
  where
    w : width d ≡ width e
    w = omega (arith, m, n, h)

    same : ComparedRepeated ds es (end - width d) → Compared d e end → ComparedRepeated (again ds d) (again es e) end
    same (inl p) (inl q) = inl (cc (p, q))
    same (inl p) (inr (inl q)) = inr (inl (inr (w, inr (p, q))))
    same (inl p) (inr (inr q)) = inr (inr (inr (sym w, inr (sym p, q))))
    same (inr (inl p)) q = inr (inl (inr (w, inl p)))
    same (inr (inr p)) q = inr (inr (inr (sym w, inl (subst (λ (x : ℕ). RepeatedBefore es ds x) h p))))

by_again_after : (ds es : Repeated) (p q d e : Tree) (end : ℕ) → width d + width p ≤ end → width e + width q ≤ end → Tri (end - width d) (end - width e) → Tri (end - width d - width p) (end - width e - width q) →
    (width d ≡ width e → width p ≡ width q → ComparedRepeated ds es (end - width d - width p)) → (width d ≡ width e → width p ≡ width q → Compared p q (end - width d)) → (width d ≡ width e → Compared d e end) →
    ComparedRepeated (again_after ds p d) (again_after es q e) end
by_again_after ds es p q d e end m n (inl h) t k l o = inr (inl (inl h))
by_again_after ds es p q d e end m n (inr (inr h)) t k l o = inr (inr (inl h))
by_again_after ds es p q d e end m n (inr (inl h)) t k l o = middle t
  where
    w : width d ≡ width e
    w = omega (arith, m, n, h)

    lists : width p ≡ width q → ComparedRepeated ds es (end - width d - width p) → Compared p q (end - width d) → Compared d e end → ComparedRepeated (again_after ds p d) (again_after es q e) end
    lists v (inl x) (inl y) (inl z) = inl (cc (x, y, z))
    lists v (inl x) (inl y) (inr (inl z)) = inr (inl (inr (w, inr (v, inr (x, inr (y, z))))))
    lists v (inl x) (inl y) (inr (inr z)) = inr (inr (inr (sym w, inr (sym v, inr (sym x, inr (sym y, z))))))
    lists v (inl x) (inr (inl y)) z = inr (inl (inr (w, inr (v, inr (x, inl y)))))
    lists v (inl x) (inr (inr y)) z = inr (inr (inr (sym w, inr (sym v, inr (sym x, inl (subst (λ (n : ℕ). Before q p n) h y))))))
    lists v (inr (inl x)) y z = inr (inl (inr (w, inr (v, inl x))))
    lists v (inr (inr x)) y z = inr (inr (inr (sym w, inr (sym v, inl (subst (λ (n : ℕ). RepeatedBefore es ds n) (omega (arith, h, v)) x)))))

    middle : Tri (end - width d - width p) (end - width e - width q) → ComparedRepeated (again_after ds p d) (again_after es q e) end
    middle (inl x) = inr (inl (inr (w, inl (subst (λ (n : ℕ). end - width d - width p < n - width q) (sym h) x))))
    middle (inr (inr x)) = inr (inr (inr (sym w, inl (subst (λ (n : ℕ). end - width e - width q < n - width p) h x))))
    middle (inr (inl x)) =
        let v : width p ≡ width q = omega (arith, m, n, h, x) in
        lists v (k w v) (l w v) (o w)

module _ (g : Grammar) (s : List ℕ) where
  same_rule : HasUniqueNames g → (t : Term) (r q : ℕ) → Calls g t r → Calls g t q → r ≡ q
  same_rule u t r q h k =
      let e : One (Call h.0 h.1) ≡ One (Call k.0 k.1) = sym h.2 ∙ k.2 in
      let n : h.1 ≡ k.1 = cc e in
      u r q k.1 (subst (λ x. IsNamed g r x) n h.3) k.3

  same_terms : (r q a b : ℕ) (ts us : List Term) → r ≡ q → a ≡ b → IsOfRule g r a ts → IsOfRule g q b us → ts ≡ us
  same_terms r q a b ts us e n h k = cc (e, n, h.1, k.1, h.2.1, k.2.1, h.2.2, k.2.2)

  same_group_terms : (t : Term) (a b : ℕ) (ts us : List Term) → a ≡ b → IsGroup t a ts → IsGroup t b us → ts ≡ us
  same_group_terms t a b ts us n h k =
      let e : One (Group h.0) ≡ One (Group k.0) = sym h.1 ∙ k.1 in
      let f : Group h.0 ≡ Group k.0 = cc e in
      let x : h.0 ≡ k.0 = same_groups h.0 k.0 f in
      cc (n, x, h.2.1, k.2.1, h.2.2, k.2.2)

  module _ (u : HasUniqueNames g) where
    mutual
      pub compare : (d e : Tree) (t : Term) (i j : ℕ) → Derives g s d t i j → Derives g s e t i j → Compared d e j
      compare (text a b) (text c e) t i j h k = inl (cc (h.0, h.1, k.0, k.1))
      compare insertion insertion t i j h k = inl refl
      compare (node r a ds) (node q b es) t i j h k =
          let e = same_rule u t r q h.0 k.0 in
          by_height r q a b ds es j e (tri _ _) (tri a b)
          (λ n. let x = same_terms r q a b h.1 k.1 e n h.2 k.2 in
          compare_all ds es h.1 i j (cc (h.3, k.3, x)) h.4 (subst (λ ts. DerivesFirst g s es ts i j) (sym x) k.4))
      compare (group a ds) (group b es) t i j h k =
          by_number 0 a b ds es j (tri a b)
          (λ n. let x = same_group_terms t a b h.0 k.0 n h.1 k.1 in
          compare_all ds es h.0 i j (cc (h.2, k.2, x)) h.3 (subst (λ ts. DerivesFirst g s es ts i j) (sym x) k.3))
      compare (present d) (present e) t i j h k =
          by_present d e j (compare d e (One h.0) i j h.2 (subst (λ f. Derives g s e (One f) i j) (sym (same_opt h.0 k.0 (sym h.1 ∙ k.1))) k.2))
      compare (present d) absent t i j h k = inr (inl tt)
      compare absent (present e) t i j h k = inr (inr tt)
      compare absent absent t i j h k = inl refl
      compare no_item no_item t i j h k = inl refl
      compare no_item (list es) t i j h k = inr (inl tt)
      compare (list ds) no_item t i j h k = inr (inr tt)
      compare (list ds) (list es) t i j h k =
          let x = same_item t h.0 k.0 h.1 k.1 h.2 k.2 in
          by_list ds es j (compare_repeated ds es h.0 h.1 i j h.3
          (subst (λ f. Repeats g s es f h.1 i j) (sym x.0) (subst (λ p. Repeats g s es k.0 p i j) (sym x.1) k.3)))
      compare d e t i j h k = absurd (omega (arith, sym (derived_form g s d t i j h) ∙ derived_form g s e t i j k))

      pub compare_all : (ds es : Trees) (terms : List Term) (i j : ℕ) → tree_count ds ≡ tree_count es → DerivesFirst g s ds terms i j → DerivesFirst g s es terms i j → ComparedAll ds es j
      compare_all no_tree no_tree terms i j c h k = inl refl
      compare_all no_tree (and es e) terms i j c h k = absurd (omega (arith, c))
      compare_all (and ds d) no_tree terms i j c h k = absurd (omega (arith, c))
      compare_all (and ds d) (and es e) terms i j c h k =
          let c' : tree_count ds ≡ tree_count es = omega (arith, c) in
          let x : h.1 ≡ k.1 = cc (h.3, k.3, c') in
          let wd = derived_width g s d h.1 h.0 j h.4 in
          let we = derived_width g s e k.1 k.0 j k.4 in
          by_last ds es d e j (omega (arith, wd)) (omega (arith, we)) (tri _ _)
          (λ w. let y : j - width d ≡ h.0 = omega (arith, wd) in
          let z : k.0 ≡ h.0 = omega (arith, wd, we, w) in
          subst (λ (n : ℕ). ComparedAll ds es n) (sym y) (compare_all ds es terms i h.0 c' h.2 (subst (λ (n : ℕ). DerivesFirst g s es terms i n) z k.2)))
          (λ w. let z : k.0 ≡ h.0 = omega (arith, wd, we, w) in
          compare d e h.1 h.0 j h.4 (subst (λ (n : ℕ). Derives g s e h.1 n j) z (subst (λ t. Derives g s e t k.0 j) (sym x) k.4)))

      pub compare_repeated : (ds es : Repeated) (f : Factor) (sep : Option Factor) (i j : ℕ) → Repeats g s ds f sep i j → Repeats g s es f sep i j → ComparedRepeated ds es j
      compare_repeated (one d) (one e) f sep i j h k = by_one d e j (compare d e (One f) i j h k)
      compare_repeated (one d) (again es e) f sep i j h k = inr (inl tt)
      compare_repeated (one d) (again_after es q e) f sep i j h k = inr (inl tt)
      compare_repeated (again ds d) (one e) f sep i j h k = inr (inr tt)
      compare_repeated (again_after ds p d) (one e) f sep i j h k = inr (inr tt)
      compare_repeated (again ds d) (again_after es q e) f sep i j h k = absurd (cc (h.0, k.1))
      compare_repeated (again_after ds p d) (again es e) f sep i j h k = absurd (cc (h.1, k.0))
      compare_repeated (again ds d) (again es e) f sep i j h k =
          let wd = derived_width g s d (One f) h.1 j h.3 in
          let we = derived_width g s e (One f) k.1 j k.3 in
          by_again ds es d e j (omega (arith, wd)) (omega (arith, we)) (tri _ _)
          (λ w. let y : j - width d ≡ h.1 = omega (arith, wd) in
          let z : k.1 ≡ h.1 = omega (arith, wd, we, w) in
          subst (λ (n : ℕ). ComparedRepeated ds es n) (sym y) (compare_repeated ds es f sep i h.1 h.2 (subst (λ (n : ℕ). Repeats g s es f sep i n) z k.2)))
          (λ w. let z : k.1 ≡ h.1 = omega (arith, wd, we, w) in
          compare d e (One f) h.1 j h.3 (subst (λ (n : ℕ). Derives g s e (One f) n j) z k.3))
      compare_repeated (again_after ds p d) (again_after es q e) f sep i j h k =
          let wd = derived_width g s d (One f) h.3 j h.6 in
          let we = derived_width g s e (One f) k.3 j k.6 in
          let wp = derived_width g s p (One h.0) h.2 h.3 h.5 in
          let wq = derived_width g s q (One k.0) k.2 k.3 k.5 in
          let same : h.0 ≡ k.0 = cc (h.1, k.1) in
          by_again_after ds es p q d e j (omega (arith, wd, wp)) (omega (arith, we, wq)) (tri _ _) (tri _ _)
          (λ w v. let y : j - width d - width p ≡ h.2 = omega (arith, wd, wp) in
          let z : k.2 ≡ h.2 = omega (arith, wd, we, wp, wq, w, v) in
          subst (λ (n : ℕ). ComparedRepeated ds es n) (sym y) (compare_repeated ds es f sep i h.2 h.4 (subst (λ (n : ℕ). Repeats g s es f sep i n) z k.4)))
          (λ w v. let y : j - width d ≡ h.3 = omega (arith, wd) in
          let z : k.2 ≡ h.2 = omega (arith, wd, we, wp, wq, w, v) in
          let x : k.3 ≡ h.3 = omega (arith, wd, we, w) in
          subst (λ (n : ℕ). Compared p q n) (sym y) (compare p q (One h.0) h.2 h.3 h.5
          (subst (λ (n : ℕ). Derives g s q (One h.0) n h.3) z (subst (λ (n : ℕ). Derives g s q (One h.0) k.2 n) x (subst (λ r. Derives g s q (One r) k.2 k.3) (sym same) k.5)))))
          (λ w. let x : k.3 ≡ h.3 = omega (arith, wd, we, w) in
          compare d e (One f) h.3 j h.6 (subst (λ (n : ℕ). Derives g s e (One f) n j) x k.6))
