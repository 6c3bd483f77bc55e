-- Entries are gathered from subtrees.
use Rattle.std.proofs.Common.{◌≡◌, refl, ap, sym, subst, ◌∙◌, ◌+◌, ◌≤◌, ◌<◌, ℕ, Option, Some, None, IfSome, List, [], ◌∷◌, ◌++◌, length, arith, get_or}
use mathlib.Core.Logic.{inl, inr}
use Rattle.std.specs.List.{Contains}
use Rattle.std.specs.Option.{option_to_list}
use Rattle.std.proofs.lemmas.Bool.{cases_lt}
use Rattle.std.proofs.lemmas.List.{append-nil, get_or_default, get_or_append_left, get_or_push, length_push}
use Rattle.ix_model.specs.declared.sub.Sub.{Sub}
use Rattle.ix_model.specs.Expansion.Parts.{Parts}
use Rattle.ix_model.specs.Closure.Useful.{sub_at, Useful}
use Rattle.ix_subtrees.specs.declared.entry.Entry.{Entry}
use Rattle.ix_subtrees.specs.Entries.{entry_at, entry_for, SameMembers}
use Rattle.ix_subtrees.specs.Subs.{no_sub}
use Rattle.ix_subtrees.specs.UsefulSubs.{AreUseful}
use Rattle.ix_subtrees.specs.Sets.{sub_of_entry, AreWays, AreAlts}
use Rattle.ix_subtrees.specs.Gathered.{IsAlt, IsWay, Gathered}

module _ (R : Sub → Entry → Type 0) (subs : List Sub) where
  pub gathered_none : Gathered R subs 0 []
  gathered_none = record { from = λ k h. absurd (omega (arith, h)); into = λ i e h. absurd (omega (arith, h)) }

  pub gathered_next : (at : ℕ) (out more : List Entry) (new : Option Entry) → IfSome new (R (get_or subs at no_sub)) → ((e : Entry) → R (get_or subs at no_sub) e → new ≡ Some e) → Gathered R subs at out → more ≡ out ++ option_to_list new → Gathered R subs (at + 1) more
  gathered_next at out more None r only g e = subst (λ (z : List Entry). Gathered R subs (at + 1) z) (sym (e ∙ append-nil out)) (record {
    from = λ k h. let i = g.from k h in (i.0, omega (arith, i.1), i.2);
    into = λ i x h s. elim (cases_lt i at) [ inl o ↦ g.into i x o s | inr o ↦ absurd (cc (only x (subst (λ (z : ℕ). R (get_or subs z no_sub) x) (omega (arith, o, h)) s))) ];
  })
  gathered_next at out more (Some y) r only g e = subst (λ (z : List Entry). Gathered R subs (at + 1) z) (sym e) (record { from = from'; into = into' })
    where
      old : (i : ℕ) → i < length out → entry_at (out ++ y ∷ []) i ≡ entry_at out i
      old i h = get_or_append_left out (y ∷ []) (entry_for 0 0 0 0) i h

      last : (k : ℕ) → k < length (out ++ y ∷ []) → length out ≤ k → entry_at (out ++ y ∷ []) k ≡ y
      last k h o = let n : length out ≡ k = omega (arith, o, h, length_push out y) in get_or_push out y (entry_for 0 0 0 0) k n

      from' : (k : ℕ) → k < length (out ++ y ∷ []) → (i : ℕ) × (i < at + 1) × R (get_or subs i no_sub) (entry_at (out ++ y ∷ []) k)
      from' k h = elim (cases_lt k (length out)) [
        | inl o ↦ let i = g.from k o in (i.0, omega (arith, i.1), subst (λ (z : Entry). R (get_or subs i.0 no_sub) z) (sym (old k o)) i.2)
        | inr o ↦ (at, omega arith, subst (λ (z : Entry). R (get_or subs at no_sub) z) (sym (last k h o)) r)
      ]

      into' : (i : ℕ) (x : Entry) → i < at + 1 → R (get_or subs i no_sub) x → (k : ℕ) × (k < length (out ++ y ∷ [])) × (entry_at (out ++ y ∷ []) k ≡ x)
      into' i x h s = elim (cases_lt i at) [
        | inl o ↦ let k = g.into i x o s in (k.0, omega (arith, k.1, length_push out y), old k.0 k.1 ∙ k.2)
        | inr o ↦
            let q : y ≡ x = cc (only x (subst (λ (z : ℕ). R (get_or subs z no_sub) x) (omega (arith, o, h)) s)) in
            (length out, omega (arith, length_push out y), get_or_push out y (entry_for 0 0 0 0) (length out) refl ∙ q)
      ]

  -- the entries of all subtrees
  pub gathered_all : (out : List Entry) (e : Entry) → Gathered R subs (length subs) out → (Contains out e → (x : Sub) × Contains subs x × R x e) × ((x : Sub) → Contains subs x → R x e → Contains out e)
  gathered_all out e g = (there, back)
    where
      there : Contains out e → (x : Sub) × Contains subs x × R x e
      there h =
          let i = g.from h.0 h.1 in
          let x = get_or subs i.0 no_sub in
          (x, (i.0, i.1, get_or_default subs i.0 x no_sub i.1), subst (λ (z : Entry). R x z) (get_or_default out h.0 (entry_for 0 0 0 0) e h.1 ∙ h.2) i.2)

      back : (x : Sub) → Contains subs x → R x e → Contains out e
      back x h r =
          let k = g.into h.0 e h.1 (subst (λ (z : Sub). R z e) (sym (get_or_default subs h.0 no_sub x h.1 ∙ h.2)) r) in
          (k.0, k.1, get_or_default out k.0 e (entry_for 0 0 0 0) k.1 ∙ k.2)

module _ (plan : Parts) (subs : List Sub) (useful : AreUseful plan subs) where
  pub ways_are : (out es : List Entry) → Gathered IsWay subs (length subs) out → SameMembers es out → AreWays plan es
  ways_are out es g s = λ e. let a = gathered_all IsWay subs out e g in (
    λ h. let x = a.0 ((s e).0 h) in subst (λ (z : Sub). Useful plan z) (sym x.2) ((useful x.0).0 x.1),
    λ h. (s e).1 (a.1 (sub_of_entry e) ((useful (sub_of_entry e)).1 h) refl),
  )

  pub alts_are : (out es : List Entry) → Gathered (IsAlt plan) subs (length subs) out → SameMembers es out → AreAlts plan es
  alts_are out es g s = λ e. let a = gathered_all (IsAlt plan) subs out e g in (
    λ h. let x = a.0 ((s e).0 h) in (x.0.slot, x.0.pivot, x.2.0, subst (λ (z : Sub). Useful plan z) (same x.0 e x.2.1 x.2.2) ((useful x.0).0 x.1)),
    λ h. (s e).1 (a.1 (sub_at h.0 e.span.left h.1 e.span.right) ((useful (sub_at h.0 e.span.left h.1 e.span.right)).1 h.3) (h.2, refl, refl)),
  )
    where
      same : (x : Sub) (e : Entry) → e.span.left ≡ x.left → e.span.right ≡ x.right → x ≡ sub_at x.slot e.span.left x.pivot e.span.right
      same x e p q = ap (λ (z : ℕ). sub_at x.slot z x.pivot x.right) (sym p) ∙ ap (λ (z : ℕ). sub_at x.slot e.span.left x.pivot z) (sym q)
