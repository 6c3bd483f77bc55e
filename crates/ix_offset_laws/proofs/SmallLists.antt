-- The descriptors of `S: "a"++",".` on `aa`, and the furthest of them.
use Rattle.std.proofs.Common.{rules, ◌≡◌, refl, ap, sym, subst, ◌∙◌, ◌+◌, ◌≤◌, ◌<◌, ℕ, zero, suc, List, [], ◌∷◌, true, Option, Some, None, arith, codes, slice_get}
use mathlib.Core.Logic.{inl}
use Rattle.ix_model.specs.declared.grammar.Mark.{Mark}
use Rattle.ix_model.specs.declared.rules.Sym.{Sym}
use Rattle.ix_model.specs.declared.rules.Sym.TheVariants as sy
use Rattle.ix_model.specs.declared.rules.Terminal.TheVariants as terminal
use Rattle.ix_model.specs.Expansion.Parts.{Parts}
use Rattle.ix_model.specs.Expansion.Planned.{IsPlanned, IsPlanOf}
use Rattle.ix_model.specs.Expansion.Expanded as X
use Rattle.ix_model.specs.Expansion.Expanded.{Expanded}
use Rattle.ix_model.specs.Expansion.Slots.{info_at, sym_after}
use Rattle.ix_model.specs.Expansion.FlatDerives.{IsTerminal}
use Rattle.ix_model.specs.Matching.Terminals.{StandsAt}
use Rattle.ix_model.specs.Derivations.Offset.{Offset}
use Rattle.ix_model.specs.Closure.Closed.{start, by_edge, Desc, begun, arrived, waiting, scanned}
use Rattle.ix_examples.specs.SmallGrammars.{of_term, commas}
use Rattle.ix_examples.specs.SmallRules.{shown, helper}
use Rattle.ix_examples.proofs.Inversions.{only_rule}
use Rattle.ix_examples.proofs.SmallTexts.{first}
use Rattle.ix_examples.proofs.SmallPlans.{literal_stands}
use Rattle.ix_offset_laws.specs.Examples.{commas_rules, commas_plan}
use Rattle.ix_offset_laws.specs.Furthest.{HasDotAt, Furthest}
use Rattle.ix_offset_laws.proofs.KeptPlaces.{AtFront, AreKept, desc_kept}
use Rattle.ix_offset_laws.proofs.FurthestOffset.{offset_of}

-- ---- the premises of the laws

expands_commas : Expanded (of_term commas) commas_rules
expands_commas = record {
  end = record { rule = 2; terminal = 2; insert = 0 };
  names = refl;
  marks = refl;
  walk = X.and_rule _ _ _ _ _ _ ((helper 1 ∷ []) ∷ []) refl
      (X.and_alt _ _ _ _ _ _ _ (X.and_term _ _ _ _ _ _ _ (X.plus _ _ _ _ (helper 1)
      (X.repeated _ _ _ _ _ (shown 0) (Some (shown 1)) refl (X.literal _ _ _ refl) (X.separator _ _ _ _ (X.literal _ _ _ refl)))) (X.no_term _)) (X.no_alt _))
      (X.no_rule _ _);
  rule_count = refl;
  terminal_count = refl;
  insert_count = refl;
}

pub plan_of_commas : IsPlanOf (of_term commas) (commas_plan (codes "aa"))
plan_of_commas = record { text = (refl, (refl, tt)); unique = λ r q name h k. only_rule _ r name h ∙ sym (only_rule _ q name k); first = omega arith; expanded = expands_commas }

pub planned_commas : IsPlanned (commas_plan (codes "aa"))
planned_commas = search rules

-- ---- the descriptors

abbrev on_aa : Parts
on_aa = commas_plan (codes "aa")

-- S and its list are called at the front, and end behind the first item
abbrev IsFirstEnd : ℕ → ℕ → Type 0
IsFirstEnd r p = p ≡ 1

-- the dot is at the front of an alternative, or behind the first item; no separator is passed
abbrev IsDotOfList : ℕ → ℕ → Type 0
IsDotOfList zero p = p ≡ 0
IsDotOfList (suc zero) p = p ≡ 1
IsDotOfList (suc (suc zero)) p = p ≡ 0
IsDotOfList (suc (suc (suc zero))) p = p ≡ 1
IsDotOfList (suc (suc (suc (suc zero)))) p = p ≡ 0
IsDotOfList (suc (suc (suc (suc (suc zero))))) p = p ≡ 1
IsDotOfList (suc (suc (suc (suc (suc (suc s)))))) p = ⊥

begins : (s r p : ℕ) → s < 8 → (info_at on_aa s).head ≡ r → (info_at on_aa s).dot ≡ 0 → p ≡ 0 → IsDotOfList s p
begins zero r p l e d c = c
begins (suc zero) r p l e d c = absurd (cc d)
begins (suc (suc zero)) r p l e d c = c
begins (suc (suc (suc zero))) r p l e d c = absurd (cc d)
begins (suc (suc (suc (suc zero)))) r p l e d c = c
begins (suc (suc (suc (suc (suc zero))))) r p l e d c = absurd (cc d)
begins (suc (suc (suc (suc (suc (suc zero)))))) r p l e d c = absurd (cc d)
begins (suc (suc (suc (suc (suc (suc (suc zero))))))) r p l e d c = absurd (cc d)
begins (suc (suc (suc (suc (suc (suc (suc (suc s)))))))) r p l e d c = absurd (omega (arith, l))

calls : (s r p : ℕ) (m : Option Mark) → sym_after on_aa s ≡ Some (sy.Rule r m) → IsDotOfList s p → p ≡ 0
calls zero r p m e d = d
calls (suc zero) r p m e d = absurd (cc e)
calls (suc (suc zero)) r p m e d = absurd (cc e)
calls (suc (suc (suc zero))) r p m e d = absurd (cc e)
calls (suc (suc (suc (suc zero)))) r p m e d = d
calls (suc (suc (suc (suc (suc zero))))) r p m e d = absurd (cc e)
calls (suc (suc (suc (suc (suc (suc s)))))) r p m e d = absurd d

ends : (s r p : ℕ) → (info_at on_aa s).head ≡ r → sym_after on_aa s ≡ None → IsDotOfList s p → p ≡ 1
ends zero r p e n d = absurd (cc n)
ends (suc zero) r p e n d = d
ends (suc (suc zero)) r p e n d = absurd (cc n)
ends (suc (suc (suc zero))) r p e n d = d
ends (suc (suc (suc (suc zero)))) r p e n d = absurd (cc n)
ends (suc (suc (suc (suc (suc zero))))) r p e n d = absurd (cc n)
ends (suc (suc (suc (suc (suc (suc s)))))) r p e n d = absurd d

stands : (n p q e : ℕ) (cs : List ℕ) (x : Sym) → x ≡ shown n → p ≡ q → slice_get commas_rules.terminals n ≡ Some (terminal.Lit cs) → IsTerminal on_aa x p e → StandsAt (codes "aa") cs q e
stands n p q e cs x y z at t = subst (λ (i : ℕ). StandsAt (codes "aa") cs i e) z (literal_stands on_aa n p e cs at (subst (λ z. IsTerminal on_aa z p e) y t))

scans : (s p e : ℕ) (x : Sym) → sym_after on_aa s ≡ Some x → IsTerminal on_aa x p e → IsDotOfList s p → IsDotOfList (s + 1) e
scans zero p e x n t d = absurd (cc (n, t.3))
scans (suc zero) p e x n t d = absurd (cc n)
scans (suc (suc zero)) p e x n t d = let y : x ≡ shown 0 = cc n in omega (arith, (stands 0 p 0 e (codes "a") x y d refl t).0)
scans (suc (suc (suc zero))) p e x n t d = absurd (cc n)
scans (suc (suc (suc (suc zero)))) p e x n t d = absurd (cc (n, t.3))
scans (suc (suc (suc (suc (suc zero))))) p e x n t d = let y : x ≡ shown 1 = cc n in absurd (omega (arith, ap first (stands 1 p 1 e (codes ",") x y d refl t).2))
scans (suc (suc (suc (suc (suc (suc s)))))) p e x n t d = absurd d

inserts : (s p n : ℕ) → sym_after on_aa s ≡ Some (sy.Insert n) → IsDotOfList s p → IsDotOfList (s + 1) p
inserts zero p n e d = absurd (cc e)
inserts (suc zero) p n e d = absurd (cc e)
inserts (suc (suc zero)) p n e d = absurd (cc e)
inserts (suc (suc (suc zero))) p n e d = absurd (cc e)
inserts (suc (suc (suc (suc zero)))) p n e d = absurd (cc e)
inserts (suc (suc (suc (suc (suc zero))))) p n e d = absurd (cc e)
inserts (suc (suc (suc (suc (suc (suc s)))))) p n e d = absurd d

joins : (s r p e : ℕ) (m : Option Mark) → sym_after on_aa s ≡ Some (sy.Rule r m) → IsDotOfList s p → e ≡ 1 → IsDotOfList (s + 1) e
joins zero r p e m n d u = u
joins (suc zero) r p e m n d u = absurd (cc n)
joins (suc (suc zero)) r p e m n d u = absurd (cc n)
joins (suc (suc (suc zero))) r p e m n d u = absurd (cc n)
joins (suc (suc (suc (suc zero)))) r p e m n d u = u
joins (suc (suc (suc (suc (suc zero))))) r p e m n d u = absurd (cc n)
joins (suc (suc (suc (suc (suc (suc s)))))) r p e m n d u = absurd d

kept_commas : AreKept on_aa AtFront IsDotOfList IsFirstEnd
kept_commas = record { start = refl; begin = begins; call = calls; end = ends; scan = scans; insert = inserts; join = joins }

at_most_1 : (p : ℕ) → HasDotAt on_aa p → p ≤ 1
at_most_1 p (s, l, d) = by_slot s (desc_kept on_aa AtFront IsDotOfList IsFirstEnd planned_commas kept_commas s l p d)
  where
    by_slot : (n : ℕ) → IsDotOfList n p → p ≤ 1
    by_slot zero k = omega (arith, k)
    by_slot (suc zero) k = omega (arith, k)
    by_slot (suc (suc zero)) k = omega (arith, k)
    by_slot (suc (suc (suc zero))) k = omega (arith, k)
    by_slot (suc (suc (suc (suc zero)))) k = omega (arith, k)
    by_slot (suc (suc (suc (suc (suc zero))))) k = omega (arith, k)
    by_slot (suc (suc (suc (suc (suc (suc n)))))) k = absurd k

-- the dot behind the list's one item
behind_item : HasDotAt on_aa 1
behind_item = (3, 0, arrived 3 0 0 1 (scanned 2 0 0 3 1 (shown 0) before_item (1, 0, 0, _, refl, refl, (_, _, refl, refl, refl), refl) (0, true, _, refl, refl, (refl, omega arith, refl))))
  where
    before_list : Desc on_aa 0 0 0
    before_list = begun 0 0 0 start (0, _, refl, (_, _, refl, refl, refl))

    before_item : Desc on_aa 2 0 0
    before_item = begun 1 0 2 (by_edge 1 0 0 0 (waiting 0 0 0 1 1 None before_list (0, 0, 0, _, refl, refl, (_, _, refl, refl, refl), refl))) (0, _, refl, (_, _, refl, refl, refl))

pub furthest_of_aa : Furthest on_aa 1
furthest_of_aa = (inl behind_item, at_most_1)

-- and so, by the law, the offset is 1
pub offset_of_aa : Offset (of_term commas) (codes "aa") 1
offset_of_aa = offset_of (of_term commas) on_aa plan_of_commas planned_commas 1 furthest_of_aa
