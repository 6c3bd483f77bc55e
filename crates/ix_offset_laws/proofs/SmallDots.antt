-- The descriptors of small plans, and the furthest of them.
use Rattle.std.proofs.Common.{rules, ◌≡◌, refl, ap, subst, ◌⊎◌, ◌+◌, ◌≤◌, ◌<◌, ℕ, zero, suc, List, true, Option, Some, arith, codes}
use mathlib.Core.Logic.{inl, inr}
use Rattle.ix_model.specs.declared.grammar.Mark.{Mark}
use Rattle.ix_model.specs.declared.rules.Sym.{Sym}
use Rattle.ix_model.specs.declared.rules.Sym.TheVariants as sy
use Rattle.ix_model.specs.Expansion.Planned.{IsPlanned}
use Rattle.ix_model.specs.Expansion.Slots.{info_at, sym_after}
use Rattle.ix_model.specs.Expansion.FlatDerives.{IsTerminal}
use Rattle.ix_model.specs.Matching.Terminals.{StandsAt}
use Rattle.ix_model.specs.Closure.Closed.{begun, arrived, Part, empty, scanned, inserted, joined}
use Rattle.ix_examples.specs.SmallRules.{shown}
use Rattle.ix_examples.specs.SmallPlans.{only_a}
use Rattle.ix_examples.proofs.SmallTexts.{first}
use Rattle.ix_examples.proofs.SmallPlans.{literal_stands, planned_b}
use Rattle.ix_examples.proofs.SmallClosures.{desc_0}
use Rattle.ix_offset_laws.specs.Examples.{no_rules}
use Rattle.ix_offset_laws.specs.Furthest.{HasDotAt, Furthest}
use Rattle.ix_offset_laws.proofs.KeptPlaces.{AtFront, AreKept, desc_kept}

-- ---- S: "a".

-- the ends don't matter, since nothing is behind a rule
abbrev AnyEnd : ℕ → ℕ → Type 0
AnyEnd r p = Unit {0}

module _ (text : List ℕ) where
  -- the dot is before the literal, or behind it where it stands
  abbrev IsDotOfA : ℕ → ℕ → Type 0
  IsDotOfA zero p = p ≡ 0
  IsDotOfA (suc zero) p = StandsAt text (codes "a") 0 p
  IsDotOfA (suc (suc s)) p = ⊥

  kept_a : AreKept (only_a text) AtFront IsDotOfA AnyEnd
  kept_a = record {
    start = refl;
    begin = begins;
    call = calls;
    end = λ s r p e n d. tt;
    scan = scans;
    insert = inserts;
    join = joins;
  }
    where
      begins : (s r p : ℕ) → s < 2 → (info_at (only_a text) s).head ≡ r → (info_at (only_a text) s).dot ≡ 0 → p ≡ 0 → IsDotOfA s p
      begins zero r p l e d c = c
      begins (suc zero) r p l e d c = absurd (cc d)
      begins (suc (suc s)) r p l e d c = absurd (omega (arith, l))

      calls : (s r p : ℕ) (m : Option Mark) → sym_after (only_a text) s ≡ Some (sy.Rule r m) → IsDotOfA s p → p ≡ 0
      calls zero r p m e d = d
      calls (suc zero) r p m e d = absurd (cc e)
      calls (suc (suc s)) r p m e d = absurd d

      scans : (s p e : ℕ) (x : Sym) → sym_after (only_a text) s ≡ Some x → IsTerminal (only_a text) x p e → IsDotOfA s p → IsDotOfA (s + 1) e
      scans zero p e x n t d =
          let y : x ≡ shown 0 = cc n in
          subst (λ (z : ℕ). StandsAt text (codes "a") z e) d (literal_stands (only_a text) 0 p e (codes "a") refl (subst (λ z. IsTerminal (only_a text) z p e) y t))
      scans (suc zero) p e x n t d = absurd (cc n)
      scans (suc (suc s)) p e x n t d = absurd d

      inserts : (s p n : ℕ) → sym_after (only_a text) s ≡ Some (sy.Insert n) → IsDotOfA s p → IsDotOfA (s + 1) p
      inserts zero p n e d = absurd (cc e)
      inserts (suc zero) p n e d = absurd (cc e)
      inserts (suc (suc s)) p n e d = absurd d

      joins : (s r p e : ℕ) (m : Option Mark) → sym_after (only_a text) s ≡ Some (sy.Rule r m) → IsDotOfA s p → Unit {0} → IsDotOfA (s + 1) e
      joins zero r p e m n d u = absurd (cc n)
      joins (suc zero) r p e m n d u = absurd (cc n)
      joins (suc (suc s)) r p e m n d u = absurd d

  dots_of_a : IsPlanned (only_a text) → (p : ℕ) → HasDotAt (only_a text) p → (p ≡ 0) ⊎ StandsAt text (codes "a") 0 p
  dots_of_a planned p (s, l, d) = by_slot s (desc_kept (only_a text) AtFront IsDotOfA AnyEnd planned kept_a s l p d)
    where
      by_slot : (n : ℕ) → IsDotOfA n p → (p ≡ 0) ⊎ StandsAt text (codes "a") 0 p
      by_slot zero k = inl k
      by_slot (suc zero) k = inr k
      by_slot (suc (suc n)) k = absurd k

  pub front_dot : HasDotAt (only_a text) 0
  front_dot = (0, 0, desc_0 text)

planned_ab : IsPlanned (only_a (codes "ab"))
planned_ab = search rules

pub behind_a : HasDotAt (only_a (codes "ab")) 1
behind_a = (1, 0, arrived 1 0 0 1 (scanned 0 0 0 1 1 (shown 0) (desc_0 (codes "ab")) (0, 0, 0, _, refl, refl, (_, _, refl, refl, refl), refl) (0, true, _, refl, refl, (refl, omega arith, refl))))

pub at_most_1 : (p : ℕ) → HasDotAt (only_a (codes "ab")) p → p ≤ 1
at_most_1 p h = by_place (dots_of_a (codes "ab") planned_ab p h)
  where
    by_place : (p ≡ 0) ⊎ StandsAt (codes "ab") (codes "a") 0 p → p ≤ 1
    by_place (inl e) = omega (arith, e)
    by_place (inr k) = omega (arith, k.0)

pub at_most_0 : (p : ℕ) → HasDotAt (only_a (codes "b")) p → p ≤ 0
at_most_0 p h = by_place (dots_of_a (codes "b") planned_b p h)
  where
    by_place : (p ≡ 0) ⊎ StandsAt (codes "b") (codes "a") 0 p → p ≤ 0
    by_place (inl e) = omega (arith, e)
    by_place (inr k) = absurd (omega (arith, ap first k.2))

pub furthest_of_ab : Furthest (only_a (codes "ab")) 1
furthest_of_ab = (inl behind_a, at_most_1)

pub furthest_of_b : Furthest (only_a (codes "b")) 0
furthest_of_b = (inl (front_dot (codes "b")), at_most_0)

-- ---- no rules

no_part : (text : List ℕ) (s l k e : ℕ) → Part (no_rules text) s l k e → ⊥
no_part text s l k e (empty rule at slot c f g) = cc f.2
no_part text s l k e (scanned slot left pivot after right x d h t) = cc h.4
no_part text s l k e (inserted slot left pivot after n d h) = cc h.4
no_part text s l k e (joined rule pivot slot left right after mark f g h) = cc h.4

pub no_dot : (text : List ℕ) (p : ℕ) → HasDotAt (no_rules text) p → ⊥
no_dot text p (s, l, begun rule at slot c f) = cc f.2
no_dot text p (s, l, arrived slot left pivot right h) = no_part text slot left pivot right h

pub furthest_of_no_rules : (text : List ℕ) → Furthest (no_rules text) 0
furthest_of_no_rules text = (inr refl, λ p d. absurd (no_dot text p d))
