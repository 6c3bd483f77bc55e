-- The walk from the root.
use Rattle.std.proofs.Common.{◌≡◌, refl, sym, subst, ◌∙◌, ◌⊎◌, ◌<◌, ℕ, zero, suc, Bool, false, List, [], ◌∷◌, ◌++◌, length, arith, replicate, true≢false}
use mathlib.Core.Logic.{inl, inr}
use Rattle.std.specs.List.{Contains}
use Rattle.std.proofs.lemmas.List.Elements.{Contains-append_left, Contains-append_right, Contains-append_cases, Contains-push, Contains-push_cases}
use Rattle.ix_subtrees.specs.declared.place.Place.{Place}
use Rattle.ix_subtrees.specs.declared.node.Key.{Key}
use Rattle.ix_subtrees.specs.declared.node.Node.{Node}
use Rattle.ix_subtrees.specs.Nodes.{key_at, IsMarked, AreTogether, Visited}
use Rattle.ix_subtrees.specs.Walks.{next_at, Linked, here, further, IsDone, Walking, AreLinked}
use Rattle.ix_subtrees.proofs.Lists.{each_of, nothing_in}

module _ (nodes : List Node) where
  pub visited_none : (marks : List Bool) (todo : List ℕ) → AreTogether nodes marks → Visited nodes [] marks todo marks todo
  visited_none marks todo t = record { len = refl; kept = λ i m. m; only = λ i m. inl m; there = λ i b m. absurd (nothing_in (key_at nodes i) m); owed = λ i m. inl m; still = λ i m. m; fresh = λ i m. inl m; paid = refl; together = t }

  pub visited_then : (cs ds : List Key) (m1 : List Bool) (t1 : List ℕ) (m2 : List Bool) (t2 : List ℕ) (m3 : List Bool) (t3 : List ℕ) → Visited nodes cs m1 t1 m2 t2 → Visited nodes ds m2 t2 m3 t3 → Visited nodes (cs ++ ds) m1 t1 m3 t3
  visited_then cs ds m1 t1 m2 t2 m3 t3 v w = record {
    len = w.len ∙ v.len;
    kept = λ i m. w.kept i (v.kept i m);
    only = λ i m. elim (w.only i m) [
      | inl h ↦ elim (v.only i h) [ inl k ↦ inl k | inr k ↦ inr (k.0, Contains-append_left cs ds (key_at nodes i) k.1) ]
      | inr h ↦ inr (h.0, Contains-append_right cs ds (key_at nodes i) h.1)
    ];
    there = λ i b m. elim (Contains-append_cases cs ds (key_at nodes i) m) [ inl h ↦ w.kept i (v.there i b h) | inr h ↦ w.there i b h ];
    owed = λ i m. elim (w.owed i m) [ inl h ↦ elim (v.owed i h) [ inl k ↦ inl k | inr k ↦ inr (w.still i k) ] | inr h ↦ inr h ];
    still = λ i m. w.still i (v.still i m);
    fresh = λ i m. elim (w.fresh i m) [ inl h ↦ elim (v.fresh i h) [ inl k ↦ inl k | inr k ↦ inr (k.0, w.kept i k.1) ] | inr h ↦ inr h ];
    paid = w.paid ∙ v.paid;
    together = w.together;
  }

module _ (places : List Place) (nodes : List Node) (root : Key) where
  pub walking_next : (marks : List Bool) (todo rest : List ℕ) (at : ℕ) (marks' : List Bool) (todo' : List ℕ) → todo ≡ rest ++ at ∷ [] → Walking places nodes root marks todo → Visited nodes (next_at places nodes at) marks rest marks' todo' → Walking places nodes root marks' todo'
  walking_next marks todo rest at marks' todo' e w v = record {
    len = v.len ∙ w.len;
    together = v.together;
    sound = λ i m. elim (v.only i m) [ inl h ↦ w.sound i h | inr h ↦ further at (key_at nodes i) mine.0 (w.sound at mine.1) h.1 ];
    begun = λ i b k. v.kept i (w.begun i b k);
    settled = λ i m. elim (v.owed i m) [ inl h ↦ elim (w.settled i h) [ inl k ↦ inl (λ j b a. v.kept j (k j b a)) | inr k ↦ left i k ] | inr h ↦ inr h ];
    below = λ i a. elim (v.fresh i a) [ inl h ↦ let k = old i (Contains-append_left rest (at ∷ []) i h) in (k.0, v.kept i k.1) | inr h ↦ h ];
  }
    where
      old : (i : ℕ) → Contains (rest ++ at ∷ []) i → (i < length nodes) × IsMarked marks i
      old i a = w.below i (subst (λ (z : List ℕ). Contains z i) (sym e) a)

      mine : (at < length nodes) × IsMarked marks at
      mine = old at (Contains-push rest at)

      left : (i : ℕ) → Contains todo i → IsDone places nodes marks' i ⊎ Contains todo' i
      left i a = elim (Contains-push_cases rest at i (subst (λ (z : List ℕ). Contains z i) e a)) [
        | inl h ↦ inr (v.still i h)
        | inr h ↦ inl (subst (λ (z : ℕ). IsDone places nodes marks' z) h v.there)
      ]

  -- nothing is left to do
  pub all_linked : (marks : List Bool) → Walking places nodes root marks [] → AreLinked places nodes root marks
  all_linked marks w = record { len = w.len; sound = w.sound; complete = λ i b l. reach (key_at nodes i) l i b refl }
    where
      done : (i : ℕ) → IsMarked marks i → IsDone places nodes marks i
      done i m = elim (w.settled i m) [ inl h ↦ h | inr h ↦ absurd (nothing_in i h) ]

      reach : (c : Key) → Linked places nodes root c → (i : ℕ) → i < length nodes → key_at nodes i ≡ c → IsMarked marks i
      reach c here i b e = w.begun i b e
      reach c (further j d k l a) i b e = done j (reach (key_at nodes j) l j k refl) i b (subst (λ (z : Key). Contains (next_at places nodes j) z) (sym e) a)

  pub popped : (marks : List Bool) (todo rest : List ℕ) (at : ℕ) → todo ≡ rest ++ at ∷ [] → Walking places nodes root marks todo → (at < length nodes) × IsMarked marks at
  popped marks todo rest at e w = w.below at (subst (λ (z : List ℕ). Contains z at) (sym e) (Contains-push rest at))

  pub ended : (marks : List Bool) (todo : List ℕ) → length todo ≡ 0 → Walking places nodes root marks todo → AreLinked places nodes root marks
  ended marks [] e w = all_linked marks w
  ended marks (x ∷ xs) e w = absurd (omega (arith, e))

-- ---- the beginning

nothing_marked : (n i : ℕ) → IsMarked (replicate n false) i → ⊥
nothing_marked zero i h = true≢false (sym h)
nothing_marked (suc n) zero h = true≢false (sym h)
nothing_marked (suc n) (suc i) h = nothing_marked n i h

pub together_first : (nodes : List Node) (n : ℕ) → AreTogether nodes (replicate n false)
together_first nodes n i j a b e m = absurd (nothing_marked n i m)

pub walking_first : (places : List Place) (nodes : List Node) (root : Key) (n : ℕ) (marks : List Bool) (todo : List ℕ) → length marks ≡ length nodes → Visited nodes (root ∷ []) (replicate n false) [] marks todo → Walking places nodes root marks todo
walking_first places nodes root n marks todo l v = record {
  len = l;
  together = v.together;
  sound = λ i m. elim (v.only i m) [ inl h ↦ absurd (nothing_marked n i h) | inr h ↦ each_of (Linked places nodes root) (root ∷ []) (key_at nodes i) (here, tt) h.1 ];
  begun = λ i b e. v.there i b (0, omega arith, sym e);
  settled = λ i m. elim (v.owed i m) [ inl h ↦ absurd (nothing_marked n i h) | inr h ↦ inr h ];
  below = λ i a. elim (v.fresh i a) [ inl h ↦ absurd (nothing_in i h) | inr h ↦ h ];
}
