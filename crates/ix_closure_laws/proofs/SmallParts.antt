-- The subtrees of the closure of S: ; "a", "b". on `ab`.
use Rattle.std.proofs.Common.{rules, ◌≡◌, refl, ap, subst, ◌⊎◌, ◌+◌, ◌≤◌, ◌<◌, ℕ, zero, suc, List, [], ◌∷◌, true, Option, Some, None, arith, slice_get}
use mathlib.Core.Logic.{inl, inr}
use Rattle.std.specs.List.{Contains}
use Rattle.std.proofs.lemmas.List.Elements.{All-contains, All-from_recursion}
use Rattle.ix_model.specs.declared.grammar.Mark.{Mark}
use Rattle.ix_model.specs.declared.rules.Sym.{Sym}
use Rattle.ix_model.specs.declared.rules.Sym.TheVariants as sy
use Rattle.ix_model.specs.declared.rules.Terminal.{Terminal}
use Rattle.ix_model.specs.declared.rules.Terminal.TheVariants as terminal
use Rattle.ix_model.specs.declared.sub.Sub.{Sub}
use Rattle.ix_model.specs.Expansion.Planned.{IsPlanned}
use Rattle.ix_model.specs.Expansion.Slots.{info_at, sym_after}
use Rattle.ix_model.specs.Expansion.FlatDerives.{IsTerminal, TerminalMatches}
use Rattle.ix_model.specs.Expansion.SlotPlaces.{HasNext, IsFirstSlot}
use Rattle.ix_model.specs.Closure.Closed.{Called, start, by_edge, Desc, begun, arrived, waiting, Part, empty, scanned, inserted, joined}
use Rattle.ix_model.specs.Closure.Useful.{sub_at}
use Rattle.ix_model.proofs.SlotReaders.{first_reads, last_reads, next_reads, reads_first, reads_last, reads_next}
use Rattle.ix_closure_laws.specs.PartLists.{AreParts}
use Rattle.ix_closure_laws.specs.SmallParts.{on_ab}

planned : IsPlanned on_ab
planned = search rules

-- what stands behind a dot: `a` behind slot 1 and `b` behind slot 2
abbrev IsStep : ℕ → Sym → Type 0
IsStep s x = ((s ≡ 1) × (x ≡ sy.Term 0 true)) ⊎ ((s ≡ 2) × (x ≡ sy.Term 1 true))

step_at : (s : ℕ) (x : Sym) → sym_after on_ab s ≡ Some x → s < 4 → IsStep s x
step_at zero x e l = absurd (cc e)
step_at (suc zero) x e l = inl (refl, cc e)
step_at (suc (suc zero)) x e l = inr (refl, cc e)
step_at (suc (suc (suc zero))) x e l = absurd (cc e)
step_at (suc (suc (suc (suc s)))) x e l = absurd (omega (arith, l))

step_of : (s after : ℕ) (x : Sym) → HasNext on_ab s after x → IsStep s x × (after ≡ s + 1)
step_of s after x h = let n = next_reads on_ab planned s after x h in (step_at s x n.1 n.0, n.2)

no_call : (s after q : ℕ) (mark : Option Mark) → ¬ (HasNext on_ab s after (sy.Rule q mark))
no_call s after q mark h = by (step_of s after (sy.Rule q mark) h).0
  where
    by : IsStep s (sy.Rule q mark) → ⊥
    by (inl e) = cc e.1
    by (inr e) = cc e.1

no_insertion : (s n : ℕ) → ¬ (IsStep s (sy.Insert n))
no_insertion s n (inl e) = cc e.1
no_insertion s n (inr e) = cc e.1

-- a character is one wide
one_wide : (n i j c : ℕ) → slice_get on_ab.rules.terminals n ≡ Some (terminal.Lit (c ∷ [])) → IsTerminal on_ab (sy.Term n true) i j → i + 1 ≡ j
one_wide n i j c at h =
    let e : h.2 ≡ terminal.Lit (c ∷ []) = cc (h.3, h.4, at) in
    (subst (λ (z : Terminal). TerminalMatches on_ab.text z i j) e h.5).0

step_ends : (s i j : ℕ) (x : Sym) → IsStep s x → IsTerminal on_ab x i j → i + 1 ≡ j
step_ends s i j x (inl e) h = one_wide 0 i j 97 refl (subst (λ (z : Sym). IsTerminal on_ab z i j) e.1 h)
step_ends s i j x (inr e) h = one_wide 1 i j 98 refl (subst (λ (z : Sym). IsTerminal on_ab z i j) e.1 h)

called_at : (q p : ℕ) → Called on_ab q p → p ≡ 0
called_at q p start = refl
called_at q p (by_edge rule at slot left (waiting s l k after r mark d h)) = absurd (no_call s after r mark h)

first_at : (s : ℕ) → s < 4 → (info_at on_ab s).dot ≡ 0 → s ≤ 1
first_at zero l e = omega arith
first_at (suc zero) l e = omega arith
first_at (suc (suc zero)) l e = absurd (cc e)
first_at (suc (suc (suc zero))) l e = absurd (cc e)
first_at (suc (suc (suc (suc s)))) l e = absurd (omega (arith, l))

first_of : (s q : ℕ) → IsFirstSlot on_ab s q → s ≤ 1
first_of s q h = let f = first_reads on_ab s q h in first_at s f.0 f.2

-- the descriptors and the subtrees by their numbers
abbrev IsDesc : ℕ → ℕ → ℕ → Type 0
IsDesc s l p = (l ≡ 0) × (((s ≤ 1) × (p ≡ 0)) ⊎ (s ≡ p + 1))

abbrev IsOne : ℕ → ℕ → ℕ → ℕ → Type 0
IsOne s l k r = (l ≡ 0) × (((s ≡ 0) × (k ≡ 0) × (r ≡ 0)) ⊎ (((s ≡ 2) × (k ≡ 0) × (r ≡ 1)) ⊎ ((s ≡ 3) × (k ≡ 1) × (r ≡ 2))))

arrives : (s l k r : ℕ) → IsOne s l k r → IsDesc s l r
arrives s l k r (z, inl e) = (z, inl (omega (arith, e.0), e.2))
arrives s l k r (z, inr (inl e)) = (z, inr (omega (arith, e.0, e.2)))
arrives s l k r (z, inr (inr e)) = (z, inr (omega (arith, e.0, e.2)))

empty_at : (s : ℕ) → s ≤ 1 → sym_after on_ab s ≡ None → s ≡ 0
empty_at zero l e = refl
empty_at (suc zero) l e = absurd (cc e)
empty_at (suc (suc s)) l e = absurd (omega (arith, l))

passes : (s l k after r : ℕ) (x : Sym) → IsDesc s l k → IsStep s x → after ≡ s + 1 → k + 1 ≡ r → IsOne after l k r
passes s l k after r x (z, inl d) (inl e) n w = (z, inr (inl (omega (arith, e.0, n), d.1, omega (arith, d.1, w))))
passes s l k after r x (z, inl d) (inr e) n w = absurd (omega (arith, d.0, e.0))
passes s l k after r x (z, inr d) (inl e) n w = (z, inr (inl (omega (arith, e.0, n), omega (arith, d, e.0), omega (arith, d, e.0, w))))
passes s l k after r x (z, inr d) (inr e) n w = (z, inr (inr (omega (arith, e.0, n), omega (arith, d, e.0), omega (arith, d, e.0, w))))

mutual
  desc_is : (s l p : ℕ) → Desc on_ab s l p → IsDesc s l p
  desc_is s l p (begun rule at slot c f) = let z = called_at rule at c in (z, inl (first_of slot rule f, z))
  desc_is s l p (arrived slot left pivot right h) = arrives slot left pivot right (part_is slot left pivot right h)

  pub part_is : (s l k r : ℕ) → Part on_ab s l k r → IsOne s l k r
  part_is s l k r (empty rule at slot c f g) =
      let z = called_at rule at c in
      (z, inl (empty_at slot (first_of slot rule f) (last_reads on_ab slot rule g).2, z, z))
  part_is s l k r (scanned slot left pivot after right x d h t) =
      let n = step_of slot after x h in
      passes slot left pivot after right x (desc_is slot left pivot d) n.0 n.1 (step_ends slot pivot right x n.0 t)
  part_is s l k r (inserted slot left pivot after n d h) = absurd (no_insertion slot n (step_of slot after (sy.Insert n) h).0)
  part_is s l k r (joined rule pivot slot left right after mark d f h) = absurd (no_call slot after rule mark h)

-- ---- each of them is there

begun_at : (s : ℕ) → s < 4 → (info_at on_ab s).head ≡ 0 → (info_at on_ab s).dot ≡ 0 → Desc on_ab s 0 0
begun_at s l e f = begun 0 0 s start (reads_first on_ab planned s 0 (l, e, f))

step : (s : ℕ) (x : Sym) → s < 4 → sym_after on_ab s ≡ Some x → HasNext on_ab s (s + 1) x
step s x l e = reads_next on_ab planned s (s + 1) x (l, e, refl)

empty_there : Part on_ab 0 0 0 0
empty_there = empty 0 0 0 start (reads_first on_ab planned 0 0 (omega arith, refl, refl)) (reads_last on_ab planned 0 0 (omega arith, refl, refl))

a_there : Part on_ab 2 0 0 1
a_there = scanned 1 0 0 2 1 (sy.Term 0 true) (begun_at 1 (omega arith) refl refl) (step 1 (sy.Term 0 true) (omega arith) refl) (0, true, _, refl, refl, (refl, omega arith, refl))

b_there : Part on_ab 3 0 1 2
b_there = scanned 2 0 1 3 2 (sy.Term 1 true) (arrived 2 0 0 1 a_there) (step 2 (sy.Term 1 true) (omega arith) refl) (1, true, _, refl, refl, (refl, omega arith, refl))

-- ---- lists of them

abbrev PartAt : Sub → Type 0
PartAt sub = Part on_ab sub.slot sub.left sub.pivot sub.right

abbrev three : List Sub
three = sub_at 0 0 0 0 ∷ sub_at 2 0 0 1 ∷ sub_at 3 0 1 2 ∷ []

listed : (s l k r : ℕ) → IsOne s l k r → Contains three (sub_at s l k r)
listed s l k r (z, inl e) = (0, omega arith, cc (e.0, z, e.1, e.2))
listed s l k r (z, inr (inl e)) = (1, omega arith, cc (e.0, z, e.1, e.2))
listed s l k r (z, inr (inr e)) = (2, omega arith, cc (e.0, z, e.1, e.2))

pub are_three : AreParts on_ab three
are_three sub = (λ c. All-contains PartAt three sub (All-from_recursion PartAt three (empty_there, (a_there, (b_there, tt)))) c, λ h. listed sub.slot sub.left sub.pivot sub.right (part_is sub.slot sub.left sub.pivot sub.right h))

-- a list without the last is none of them all
pub lacks_last : ¬ (AreParts on_ab (sub_at 0 0 0 0 ∷ sub_at 2 0 0 1 ∷ []))
lacks_last h = by ((h (sub_at 3 0 1 2)).1 b_there)
  where
    by : Contains (sub_at 0 0 0 0 ∷ sub_at 2 0 0 1 ∷ []) (sub_at 3 0 1 2) → ⊥
    by (zero, l, e) = omega (arith, ap (λ (z : Sub). z.slot) e)
    by (suc zero, l, e) = omega (arith, ap (λ (z : Sub). z.slot) e)
    by (suc (suc k), l, e) = omega (arith, l)
