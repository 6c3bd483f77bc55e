-- The closures of the small plans of the worked examples.
use Rattle.std.proofs.Common.{◌≡◌, refl, ap, sym, subst, ◌∙◌, ◌⊎◌, ◌+◌, ◌*◌, ◌≤◌, ℕ, zero, suc, List, [], ◌∷◌, take, drop, length, true, Option, Some, None, codes, arith, slice_get}
use mathlib.Core.Logic.{inl, inr}
use Rattle.ix_model.specs.declared.grammar.Mark.{Mark}
use Rattle.ix_model.specs.declared.rules.Sym.{Sym}
use Rattle.ix_model.specs.declared.rules.Sym.TheVariants as sy
use Rattle.ix_model.specs.Expansion.Parts.{Parts}
use Rattle.ix_model.specs.Expansion.Slots.{IsSlot}
use Rattle.ix_model.specs.Expansion.FlatDerives.{IsLine, IsTerminal}
use Rattle.ix_model.specs.Expansion.SlotPlaces.{HasNext, IsFirstSlot, IsLastSlot}
use Rattle.ix_model.specs.Closure.Closed.{Called, start, by_edge, Desc, begun, arrived, Edge, waiting, End, ended, Part, empty, scanned, inserted, joined}
use Rattle.ix_examples.specs.SmallPlans.{call, literal, only_a, cycle, nothing}
use Rattle.ix_model.proofs.SlotPlaces.{same_slot}
use Rattle.ix_examples.proofs.SmallTexts.{first}
use Rattle.ix_examples.proofs.SmallPlans.{literal_stands}

-- ---- S: "a".

module _ (text : List ℕ) where
  place_a : (s r a dot : ℕ) → IsSlot (only_a text) s r a dot → (r ≡ 0) × (a ≡ 0) × (s ≡ dot) × (dot ≤ 1)
  place_a zero r a dot h = let e = same_slot (only_a text) 0 0 0 0 r a dot refl h in (sym e.0, sym e.1, e.2, omega (arith, e.2))
  place_a (suc zero) r a dot h = let e = same_slot (only_a text) 1 0 0 1 r a dot refl h in (sym e.0, sym e.1, e.2, omega (arith, e.2))
  place_a (suc (suc s)) r a dot h = absurd (cc h)

  next_a : (s after : ℕ) (x : Sym) → HasNext (only_a text) s after x → (s ≡ 0) × (after ≡ 1) × (x ≡ literal 0)
  next_a s after x h =
      let p = place_a s h.0 h.1 h.2 h.4 in
      let q = place_a after h.0 h.1 (h.2 + 1) h.5 in
      let d : h.2 ≡ 0 = omega (arith, q.3) in
      (p.2 ∙ d, omega (arith, q.2, d), x_is h.0 h.1 h.2 p.0 p.1 d h.3 h.6 h.7)
    where
      x_is : (r a dot : ℕ) → r ≡ 0 → a ≡ 0 → dot ≡ 0 → (syms : List Sym) → IsLine (only_a text) r a syms → slice_get syms dot ≡ Some x → x ≡ literal 0
      x_is r a dot e f g syms line at = cc (e, f, g, line.2, line.3, line.4, at)

  first_a : (s r : ℕ) → IsFirstSlot (only_a text) s r → (s ≡ 0) × (r ≡ 0)
  first_a s r h = let p = place_a s r h.0 0 h.2 in (p.2, p.0)

  pub last_a : (s r : ℕ) → IsLastSlot (only_a text) s r → (s ≡ 1) × (r ≡ 0)
  last_a s r h =
      let p = place_a s r h.0 (length h.1) h.2 in
      let e : h.1 ≡ literal 0 ∷ [] = cc (p.0, p.1, h.3.2, h.3.3, h.3.4) in
      (p.2 ∙ ap length e, p.0)

  pub called_a : (r p : ℕ) → Called (only_a text) r p → (r ≡ 0) × (p ≡ 0)
  called_a r p start = (refl, refl)
  called_a r p (by_edge rule at slot left (waiting s l k after q mark d h)) = absurd (cc (next_a s after (sy.Rule q mark) h).2)

abbrev pub on_a : Parts
on_a = only_a (codes "a")

matched_a : (x : Sym) (i j : ℕ) → x ≡ literal 0 → IsTerminal on_a x i j → (i ≡ 0) × (j ≡ 1)
matched_a x i j e h =
    let s = literal_stands on_a 0 i j (codes "a") refl (subst (λ (z : Sym). IsTerminal on_a z i j) e h) in
    (omega (arith, s.0, s.1), omega (arith, s.0, s.1))

mutual
  pub desc_a : (s l p : ℕ) → Desc on_a s l p → (l ≡ 0) × (((s ≡ 0) × (p ≡ 0)) ⊎ ((s ≡ 1) × (p ≡ 1)))
  desc_a s l p (begun rule at slot c f) =
      let z = (called_a (codes "a") rule at c).1 in
      (z, inl ((first_a (codes "a") slot rule f).0, z))
  desc_a s l p (arrived slot left pivot right h) = let t = part_a slot left pivot right h in (t.1, inr (t.0, t.3))

  pub part_a : (s l k e : ℕ) → Part on_a s l k e → (s ≡ 1) × (l ≡ 0) × (k ≡ 0) × (e ≡ 1)
  part_a s l k e (empty rule at slot c f g) = absurd (omega (arith, (first_a (codes "a") slot rule f).0, (last_a (codes "a") slot rule g).0))
  part_a s l k e (scanned slot left pivot after right x d h t) =
      let n = next_a (codes "a") slot after x h in
      let m = matched_a x pivot right n.2 t in
      (n.1, (desc_a slot left pivot d).0, m.0, m.1)
  part_a s l k e (inserted slot left pivot after n d h) = absurd (cc (next_a (codes "a") slot after (sy.Insert n) h).2)
  part_a s l k e (joined rule pivot slot left right after mark d f h) = absurd (cc (next_a (codes "a") slot after (sy.Rule rule mark) h).2)

pub end_a : (r l e : ℕ) → End on_a r l e → (r ≡ 0) × (l ≡ 0) × (e ≡ 1)
end_a r l e (ended slot left right rule d h) = go (desc_a slot left right d)
  where
    last : (slot ≡ 1) × (rule ≡ 0)
    last = last_a (codes "a") slot rule h

    go : (left ≡ 0) × (((slot ≡ 0) × (right ≡ 0)) ⊎ ((slot ≡ 1) × (right ≡ 1))) → (rule ≡ 0) × (left ≡ 0) × (right ≡ 1)
    go (z, inl t) = absurd (omega (arith, last.0, t.0))
    go (z, inr t) = (last.1, z, t.1)

pub edge_a : (r p s l : ℕ) → Edge on_a r p s l → ⊥
edge_a r p s l (waiting slot left at after rule mark d h) = absurd (cc (next_a (codes "a") slot after (sy.Rule rule mark) h).2)

pub desc_0 : (text : List ℕ) → Desc (only_a text) 0 0 0
desc_0 text = begun 0 0 0 start (0, _, refl, (_, _, refl, refl, refl))

pub part_1 : Part on_a 1 0 0 1
part_1 = scanned 0 0 0 1 1 (literal 0) (desc_0 (codes "a")) (0, 0, 0, _, refl, refl, (_, _, refl, refl, refl), refl) (0, true, _, refl, refl, (refl, omega arith, refl))

pub desc_1 : Desc on_a 1 0 1
desc_1 = arrived 1 0 0 1 part_1

pub last_1 : IsLastSlot on_a 1 0
last_1 = (0, _, refl, (_, _, refl, refl, refl))

pub end_1 : End on_a 0 0 1
end_1 = ended 1 0 1 0 desc_1 last_1

no_a_there : (i : ℕ) → take 1 (drop i (codes "b")) ≡ codes "a" → ⊥
no_a_there zero e = omega (arith, ap first e)
no_a_there (suc zero) e = omega (arith, ap length e)
no_a_there (suc (suc i)) e = omega (arith, ap length e)

-- on `b` nothing is passed
pub no_part_b : (s l k e : ℕ) → Part (only_a (codes "b")) s l k e → ⊥
no_part_b s l k e (empty rule at slot c f g) = omega (arith, (first_a (codes "b") slot rule f).0, (last_a (codes "b") slot rule g).0)
no_part_b s l k e (scanned slot left pivot after right x d h t) =
    let n = next_a (codes "b") slot after x h in
    no_a_there pivot (literal_stands (only_a (codes "b")) 0 pivot right (codes "a") refl (subst (λ (z : Sym). IsTerminal (only_a (codes "b")) z pivot right) n.2 t)).2
no_part_b s l k e (inserted slot left pivot after n d h) = cc (next_a (codes "b") slot after (sy.Insert n) h).2
no_part_b s l k e (joined rule pivot slot left right after mark d f h) = cc (next_a (codes "b") slot after (sy.Rule rule mark) h).2

pub no_end_b : (r l e : ℕ) → End (only_a (codes "b")) r l e → ⊥
no_end_b r l e (ended slot left right rule (begun q at s c f) h) = omega (arith, (first_a (codes "b") s q f).0, (last_a (codes "b") s rule h).0)
no_end_b r l e (ended slot left right rule (arrived s k pivot p d) h) = no_part_b s k pivot p d

-- ---- S: S; "a".

place_c : (s r a dot : ℕ) → IsSlot (cycle (codes "a")) s r a dot → (r ≡ 0) × ((a ≡ 0) ⊎ (a ≡ 1)) × (s ≡ 2 * a + dot) × (dot ≤ 1)
place_c zero r a dot h = let e = same_slot (cycle (codes "a")) 0 0 0 0 r a dot refl h in (sym e.0, inl (sym e.1), omega (arith, e.1, e.2), omega (arith, e.2))
place_c (suc zero) r a dot h = let e = same_slot (cycle (codes "a")) 1 0 0 1 r a dot refl h in (sym e.0, inl (sym e.1), omega (arith, e.1, e.2), omega (arith, e.2))
place_c (suc (suc zero)) r a dot h = let e = same_slot (cycle (codes "a")) 2 0 1 0 r a dot refl h in (sym e.0, inr (sym e.1), omega (arith, e.1, e.2), omega (arith, e.2))
place_c (suc (suc (suc zero))) r a dot h = let e = same_slot (cycle (codes "a")) 3 0 1 1 r a dot refl h in (sym e.0, inr (sym e.1), omega (arith, e.1, e.2), omega (arith, e.2))
place_c (suc (suc (suc (suc s)))) r a dot h = absurd (cc h)

next_c : (s after : ℕ) (x : Sym) → HasNext (cycle (codes "a")) s after x → ((s ≡ 0) × (after ≡ 1) × (x ≡ call 0)) ⊎ ((s ≡ 2) × (after ≡ 3) × (x ≡ literal 0))
next_c s after x h = go p.1
  where
    p : (h.0 ≡ 0) × ((h.1 ≡ 0) ⊎ (h.1 ≡ 1)) × (s ≡ 2 * h.1 + h.2) × (h.2 ≤ 1)
    p = place_c s h.0 h.1 h.2 h.4

    q : (h.0 ≡ 0) × ((h.1 ≡ 0) ⊎ (h.1 ≡ 1)) × (after ≡ 2 * h.1 + (h.2 + 1)) × (h.2 + 1 ≤ 1)
    q = place_c after h.0 h.1 (h.2 + 1) h.5

    d : h.2 ≡ 0
    d = omega (arith, q.3)

    by_first : (r a dot : ℕ) → r ≡ 0 → a ≡ 0 → dot ≡ 0 → (syms : List Sym) → IsLine (cycle (codes "a")) r a syms → slice_get syms dot ≡ Some x → x ≡ call 0
    by_first r a dot e f g syms line at = cc (e, f, g, line.2, line.3, line.4, at)

    by_second : (r a dot : ℕ) → r ≡ 0 → a ≡ 1 → dot ≡ 0 → (syms : List Sym) → IsLine (cycle (codes "a")) r a syms → slice_get syms dot ≡ Some x → x ≡ literal 0
    by_second r a dot e f g syms line at = cc (e, f, g, line.2, line.3, line.4, at)

    go : (h.1 ≡ 0) ⊎ (h.1 ≡ 1) → ((s ≡ 0) × (after ≡ 1) × (x ≡ call 0)) ⊎ ((s ≡ 2) × (after ≡ 3) × (x ≡ literal 0))
    go (inl a) = inl (omega (arith, p.2, a, d), omega (arith, q.2, a, d), by_first h.0 h.1 h.2 p.0 a d h.3 h.6 h.7)
    go (inr a) = inr (omega (arith, p.2, a, d), omega (arith, q.2, a, d), by_second h.0 h.1 h.2 p.0 a d h.3 h.6 h.7)

first_c : (s r : ℕ) → IsFirstSlot (cycle (codes "a")) s r → ((s ≡ 0) ⊎ (s ≡ 2)) × (r ≡ 0)
first_c s r h = (go p.1, p.0)
  where
    p : (r ≡ 0) × ((h.0 ≡ 0) ⊎ (h.0 ≡ 1)) × (s ≡ 2 * h.0 + 0) × (0 ≤ 1)
    p = place_c s r h.0 0 h.2

    go : (h.0 ≡ 0) ⊎ (h.0 ≡ 1) → (s ≡ 0) ⊎ (s ≡ 2)
    go (inl a) = inl (omega (arith, p.2, a))
    go (inr a) = inr (omega (arith, p.2, a))

last_c : (s r : ℕ) → IsLastSlot (cycle (codes "a")) s r → ((s ≡ 1) ⊎ (s ≡ 3)) × (r ≡ 0)
last_c s r h = (go p.1, p.0)
  where
    p : (r ≡ 0) × ((h.0 ≡ 0) ⊎ (h.0 ≡ 1)) × (s ≡ 2 * h.0 + length h.1) × (length h.1 ≤ 1)
    p = place_c s r h.0 (length h.1) h.2

    by_first : h.0 ≡ 0 → h.1 ≡ call 0 ∷ []
    by_first a = cc (p.0, a, h.3.2, h.3.3, h.3.4)

    by_second : h.0 ≡ 1 → h.1 ≡ literal 0 ∷ []
    by_second a = cc (p.0, a, h.3.2, h.3.3, h.3.4)

    go : (h.0 ≡ 0) ⊎ (h.0 ≡ 1) → (s ≡ 1) ⊎ (s ≡ 3)
    go (inl a) = inl (omega (arith, p.2, a, ap length (by_first a)))
    go (inr a) = inr (omega (arith, p.2, a, ap length (by_second a)))

-- where a descriptor of a slot stands
abbrev StandsBy : ℕ → ℕ → Type 0
StandsBy s p = (((s ≡ 0) ⊎ (s ≡ 2)) × (p ≡ 0)) ⊎ (((s ≡ 1) ⊎ (s ≡ 3)) × (p ≡ 1))

before_dot : (s p : ℕ) → (s ≡ 0) ⊎ (s ≡ 2) → StandsBy s p → p ≡ 0
before_dot s p h (inl t) = t.1
before_dot s p (inl h) (inr (inl t, u)) = absurd (omega (arith, h, t))
before_dot s p (inl h) (inr (inr t, u)) = absurd (omega (arith, h, t))
before_dot s p (inr h) (inr (inl t, u)) = absurd (omega (arith, h, t))
before_dot s p (inr h) (inr (inr t, u)) = absurd (omega (arith, h, t))

behind_dot : (s p : ℕ) → (s ≡ 1) ⊎ (s ≡ 3) → StandsBy s p → p ≡ 1
behind_dot s p h (inr t) = t.1
behind_dot s p (inl h) (inl (inl t, u)) = absurd (omega (arith, h, t))
behind_dot s p (inl h) (inl (inr t, u)) = absurd (omega (arith, h, t))
behind_dot s p (inr h) (inl (inl t, u)) = absurd (omega (arith, h, t))
behind_dot s p (inr h) (inl (inr t, u)) = absurd (omega (arith, h, t))

not_both : (s : ℕ) → (s ≡ 0) ⊎ (s ≡ 2) → (s ≡ 1) ⊎ (s ≡ 3) → ⊥
not_both s (inl h) (inl k) = omega (arith, h, k)
not_both s (inl h) (inr k) = omega (arith, h, k)
not_both s (inr h) (inl k) = omega (arith, h, k)
not_both s (inr h) (inr k) = omega (arith, h, k)

matched_c : (x : Sym) (i j : ℕ) → x ≡ literal 0 → IsTerminal (cycle (codes "a")) x i j → (i ≡ 0) × (j ≡ 1)
matched_c x i j e h =
    let s = literal_stands (cycle (codes "a")) 0 i j (codes "a") refl (subst (λ (z : Sym). IsTerminal (cycle (codes "a")) z i j) e h) in
    (omega (arith, s.0, s.1), omega (arith, s.0, s.1))

waits : (slot left at after rule : ℕ) (mark : Option Mark) → (left ≡ 0) × StandsBy slot at → ((slot ≡ 0) × (after ≡ 1) × (sy.Rule rule mark ≡ call 0)) ⊎ ((slot ≡ 2) × (after ≡ 3) × (sy.Rule rule mark ≡ literal 0)) → (rule ≡ 0) × (at ≡ 0) × (slot ≡ 0) × (left ≡ 0)
waits slot left at after rule mark d (inl n) = (cc n.2, before_dot slot at (inl n.0) d.1, n.0, d.0)
waits slot left at after rule mark d (inr n) = absurd (cc n.2)

passes : (slot left pivot after right : ℕ) (x : Sym) → left ≡ 0 → IsTerminal (cycle (codes "a")) x pivot right → ((slot ≡ 0) × (after ≡ 1) × (x ≡ call 0)) ⊎ ((slot ≡ 2) × (after ≡ 3) × (x ≡ literal 0)) → ((after ≡ 1) ⊎ (after ≡ 3)) × (left ≡ 0) × (pivot ≡ 0) × (right ≡ 1)
passes slot left pivot after right x d t (inl n) = absurd (cc (n.2, t.3))
passes slot left pivot after right x d t (inr n) = let m = matched_c x pivot right n.2 t in (inr n.1, d, m.0, m.1)

no_insertion : (slot after n : ℕ) → ((slot ≡ 0) × (after ≡ 1) × (sy.Insert n ≡ call 0)) ⊎ ((slot ≡ 2) × (after ≡ 3) × (sy.Insert n ≡ literal 0)) → ⊥
no_insertion slot after n (inl h) = cc h.2
no_insertion slot after n (inr h) = cc h.2

joins : (slot after rule : ℕ) (mark : Option Mark) → ((slot ≡ 0) × (after ≡ 1) × (sy.Rule rule mark ≡ call 0)) ⊎ ((slot ≡ 2) × (after ≡ 3) × (sy.Rule rule mark ≡ literal 0)) → (after ≡ 1) ⊎ (after ≡ 3)
joins slot after rule mark (inl n) = inl n.1
joins slot after rule mark (inr n) = inr n.1

mutual
  pub called_c : (r p : ℕ) → Called (cycle (codes "a")) r p → (r ≡ 0) × (p ≡ 0)
  called_c r p start = (refl, refl)
  called_c r p (by_edge rule at slot left e) = let h = edge_c rule at slot left e in (h.0, h.1)

  pub desc_c : (s l p : ℕ) → Desc (cycle (codes "a")) s l p → (l ≡ 0) × StandsBy s p
  desc_c s l p (begun rule at slot c f) = let z = (called_c rule at c).1 in (z, inl ((first_c slot rule f).0, z))
  desc_c s l p (arrived slot left pivot right h) = let t = part_c slot left pivot right h in (t.1, inr (t.0, t.3))

  pub edge_c : (r p s l : ℕ) → Edge (cycle (codes "a")) r p s l → (r ≡ 0) × (p ≡ 0) × (s ≡ 0) × (l ≡ 0)
  edge_c r p s l (waiting slot left at after rule mark d h) = waits slot left at after rule mark (desc_c slot left at d) (next_c slot after (sy.Rule rule mark) h)

  pub end_c : (r l e : ℕ) → End (cycle (codes "a")) r l e → (r ≡ 0) × (l ≡ 0) × (e ≡ 1)
  end_c r l e (ended slot left right rule d h) =
      let t = desc_c slot left right d in
      let n = last_c slot rule h in
      (n.1, t.0, behind_dot slot right n.0 t.1)

  pub part_c : (s l k e : ℕ) → Part (cycle (codes "a")) s l k e → ((s ≡ 1) ⊎ (s ≡ 3)) × (l ≡ 0) × (k ≡ 0) × (e ≡ 1)
  part_c s l k e (empty rule at slot c f g) = absurd (not_both slot (first_c slot rule f).0 (last_c slot rule g).0)
  part_c s l k e (scanned slot left pivot after right x d h t) = passes slot left pivot after right x (desc_c slot left pivot d).0 t (next_c slot after x h)
  part_c s l k e (inserted slot left pivot after n d h) = absurd (no_insertion slot after n (next_c slot after (sy.Insert n) h))
  part_c s l k e (joined rule pivot slot left right after mark d f h) =
      let q = edge_c rule pivot slot left d in
      (joins slot after rule mark (next_c slot after (sy.Rule rule mark) h), q.3, q.1, (end_c rule pivot right f).2)

pub desc_0c : Desc (cycle (codes "a")) 0 0 0
desc_0c = begun 0 0 0 start (0, _, refl, (_, _, refl, refl, refl))

pub desc_2c : Desc (cycle (codes "a")) 2 0 0
desc_2c = begun 0 0 2 start (1, _, refl, (_, _, refl, refl, refl))

next_0c : HasNext (cycle (codes "a")) 0 1 (call 0)
next_0c = (0, 0, 0, _, refl, refl, (_, _, refl, refl, refl), refl)

pub edge_0c : Edge (cycle (codes "a")) 0 0 0 0
edge_0c = waiting 0 0 0 1 0 None desc_0c next_0c

pub part_3c : Part (cycle (codes "a")) 3 0 0 1
part_3c = scanned 2 0 0 3 1 (literal 0) desc_2c (0, 1, 0, _, refl, refl, (_, _, refl, refl, refl), refl) (0, true, _, refl, refl, (refl, omega arith, refl))

pub end_0c : End (cycle (codes "a")) 0 0 1
end_0c = ended 3 0 1 0 (arrived 3 0 0 1 part_3c) (1, _, refl, (_, _, refl, refl, refl))

pub part_1c : Part (cycle (codes "a")) 1 0 0 1
part_1c = joined 0 0 0 0 1 1 None edge_0c end_0c next_0c

-- ---- S: .

next_none : (text : List ℕ) (s after : ℕ) (x : Sym) → HasNext (nothing text) s after x → ⊥
next_none text s zero x h = omega (arith, (same_slot (nothing text) 0 h.0 h.1 (h.2 + 1) 0 0 0 h.5 refl).2)
next_none text s (suc after) x h = cc h.5

part_none : (text : List ℕ) (s l k e : ℕ) → Part (nothing text) s l k e → l ≡ e
part_none text s l k e (empty rule at slot c f g) = refl
part_none text s l k e (scanned slot left pivot after right x d h t) = absurd (next_none text slot after x h)
part_none text s l k e (inserted slot left pivot after n d h) = absurd (next_none text slot after (sy.Insert n) h)
part_none text s l k e (joined rule pivot slot left right after mark d f h) = absurd (next_none text slot after (sy.Rule rule mark) h)

pub end_none : (text : List ℕ) (r l e : ℕ) → End (nothing text) r l e → l ≡ e
end_none text r l e (ended slot left right rule (begun q at s c f) h) = refl
end_none text r l e (ended slot left right rule (arrived s k pivot p d) h) = part_none text s k pivot p d
