-- No two trees are each before the other.
use Rattle.std.proofs.Common.{sym, subst, ◌-◌, ℕ, arith}
use mathlib.Core.Logic.{inl, inr}
use Rattle.ix_model.specs.Derivations.Trees.{Tree, node, group, present, absent, no_item, list, Trees, no_tree, and, Repeated, one, again, again_after, width}
use Rattle.ix_model.specs.Derivations.Order.{Before, AllBefore, RepeatedBefore}

mutual
  pub asym : (d e : Tree) (n : ℕ) → Before d e n → Before e d n → ⊥
  asym (node r a ds) (node q b es) n (inl h) (inl k) = omega (arith, h, k)
  asym (node r a ds) (node q b es) n (inl h) (inr k) = omega (arith, h, k.0)
  asym (node r a ds) (node q b es) n (inr h) (inl k) = omega (arith, h.0, k)
  asym (node r a ds) (node q b es) n (inr (h, inl i)) (inr (k, inl j)) = omega (arith, i, j)
  asym (node r a ds) (node q b es) n (inr (h, inl i)) (inr (k, inr j)) = omega (arith, i, j.0)
  asym (node r a ds) (node q b es) n (inr (h, inr i)) (inr (k, inl j)) = omega (arith, i.0, j)
  asym (node r a ds) (node q b es) n (inr (h, inr i)) (inr (k, inr j)) = all_asym ds es n i.1 j.1
  asym (group a ds) (group b es) n (inl i) (inl j) = omega (arith, i, j)
  asym (group a ds) (group b es) n (inl i) (inr j) = omega (arith, i, j.0)
  asym (group a ds) (group b es) n (inr i) (inl j) = omega (arith, i.0, j)
  asym (group a ds) (group b es) n (inr i) (inr j) = all_asym ds es n i.1 j.1
  asym (present d) (present e) n h k = asym d e n h k
  asym (present d) absent n h k = absurd k
  asym no_item (list es) n h k = absurd k
  asym (list ds) (list es) n h k = repeated_asym ds es n h k
  asym _ _ n h k = absurd h

  pub all_asym : (ds es : Trees) (n : ℕ) → AllBefore ds es n → AllBefore es ds n → ⊥
  all_asym (and ds d) (and es e) n (inl h) (inl k) = omega (arith, h, k)
  all_asym (and ds d) (and es e) n (inl h) (inr k) = omega (arith, h, k.0)
  all_asym (and ds d) (and es e) n (inr h) (inl k) = omega (arith, h.0, k)
  all_asym (and ds d) (and es e) n (inr (w, inl p)) (inr (v, inl q)) = all_asym ds es (n - width d) p (subst (λ (m : ℕ). AllBefore es ds (n - m)) v q)
  all_asym (and ds d) (and es e) n (inr (w, inl p)) (inr (v, inr q)) =
      let x : AllBefore ds ds (n - width d) = subst (λ z. AllBefore ds z (n - width d)) q.0 p in
      all_asym ds ds (n - width d) x x
  all_asym (and ds d) (and es e) n (inr (w, inr p)) (inr (v, inl q)) =
      let x : AllBefore ds ds (n - width e) = subst (λ z. AllBefore z ds (n - width e)) (sym p.0) q in
      all_asym ds ds (n - width e) x x
  all_asym (and ds d) (and es e) n (inr (w, inr p)) (inr (v, inr q)) = asym d e n p.1 q.1
  all_asym no_tree es n h k = absurd h
  all_asym (and ds d) no_tree n h k = absurd h

  pub repeated_asym : (ds es : Repeated) (n : ℕ) → RepeatedBefore ds es n → RepeatedBefore es ds n → ⊥
  repeated_asym (one d) (one e) n h k = asym d e n h k
  repeated_asym (one d) (again es e) n h k = absurd k
  repeated_asym (one d) (again_after es p e) n h k = absurd k
  repeated_asym (again ds d) (again es e) n (inl h) (inl k) = omega (arith, h, k)
  repeated_asym (again ds d) (again es e) n (inl h) (inr k) = omega (arith, h, k.0)
  repeated_asym (again ds d) (again es e) n (inr h) (inl k) = omega (arith, h.0, k)
  repeated_asym (again ds d) (again es e) n (inr (w, inl p)) (inr (v, inl q)) = repeated_asym ds es (n - width d) p (subst (λ (m : ℕ). RepeatedBefore es ds (n - m)) v q)
  repeated_asym (again ds d) (again es e) n (inr (w, inl p)) (inr (v, inr q)) =
      let x : RepeatedBefore ds ds (n - width d) = subst (λ z. RepeatedBefore ds z (n - width d)) q.0 p in
      repeated_asym ds ds (n - width d) x x
  repeated_asym (again ds d) (again es e) n (inr (w, inr p)) (inr (v, inl q)) =
      let x : RepeatedBefore ds ds (n - width e) = subst (λ z. RepeatedBefore z ds (n - width e)) (sym p.0) q in
      repeated_asym ds ds (n - width e) x x
  repeated_asym (again ds d) (again es e) n (inr (w, inr p)) (inr (v, inr q)) = asym d e n p.1 q.1
  repeated_asym (again_after ds p d) (again_after es q e) n (inl h) (inl k) = omega (arith, h, k)
  repeated_asym (again_after ds p d) (again_after es q e) n (inl h) (inr k) = omega (arith, h, k.0)
  repeated_asym (again_after ds p d) (again_after es q e) n (inr h) (inl k) = omega (arith, h.0, k)
  repeated_asym (again_after ds p d) (again_after es q e) n (inr (w, inl h)) (inr (v, inl k)) = omega (arith, w, v, h, k)
  repeated_asym (again_after ds p d) (again_after es q e) n (inr (w, inl h)) (inr (v, inr k)) = omega (arith, w, v, h, k.0)
  repeated_asym (again_after ds p d) (again_after es q e) n (inr (w, inr h)) (inr (v, inl k)) = omega (arith, w, v, h.0, k)
  repeated_asym (again_after ds p d) (again_after es q e) n (inr (w, inr (a, inl x))) (inr (v, inr (b, inl y))) =
      repeated_asym ds es (n - width d - width p) x (subst (λ (m : ℕ). RepeatedBefore es ds (n - m - width p)) v (subst (λ (m : ℕ). RepeatedBefore es ds (n - width e - m)) b y))
  repeated_asym (again_after ds p d) (again_after es q e) n (inr (w, inr (a, inl x))) (inr (v, inr (b, inr y))) =
      let z : RepeatedBefore ds ds (n - width d - width p) = subst (λ t. RepeatedBefore ds t (n - width d - width p)) y.0 x in
      repeated_asym ds ds (n - width d - width p) z z
  repeated_asym (again_after ds p d) (again_after es q e) n (inr (w, inr (a, inr x))) (inr (v, inr (b, inl y))) =
      let z : RepeatedBefore ds ds (n - width e - width q) = subst (λ t. RepeatedBefore t ds (n - width e - width q)) (sym x.0) y in
      repeated_asym ds ds (n - width e - width q) z z
  repeated_asym (again_after ds p d) (again_after es q e) n (inr (w, inr (a, inr (x, inl y)))) (inr (v, inr (b, inr (u, inl z)))) = asym p q (n - width d) y (subst (λ (m : ℕ). Before q p (n - m)) v z)
  repeated_asym (again_after ds p d) (again_after es q e) n (inr (w, inr (a, inr (x, inl y)))) (inr (v, inr (b, inr (u, inr z)))) =
      let t : Before p p (n - width d) = subst (λ r. Before p r (n - width d)) z.0 y in
      asym p p (n - width d) t t
  repeated_asym (again_after ds p d) (again_after es q e) n (inr (w, inr (a, inr (x, inr y)))) (inr (v, inr (b, inr (u, inl z)))) =
      let t : Before p p (n - width e) = subst (λ r. Before r p (n - width e)) (sym y.0) z in
      asym p p (n - width e) t t
  repeated_asym (again_after ds p d) (again_after es q e) n (inr (w, inr (a, inr (x, inr y)))) (inr (v, inr (b, inr (u, inr z)))) = asym d e n y.1 z.1
  repeated_asym _ _ n h k = absurd h
