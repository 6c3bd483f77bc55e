-- The subtrees of the closures of small plans.
use Rattle.std.proofs.Common.{rules, ◌≡◌, refl, ap, sym, subst, ◌∙◌, ◌⊎◌, ◌+◌, ◌<◌, ℕ, zero, suc, List, [], ◌∷◌, Some, None, codes, arith, true}
use mathlib.Core.Logic.{inl, inr}
use Rattle.std.specs.List.{AllByRecursion, Contains}
use Rattle.ix_model.specs.declared.rules.Sym.{Sym}
use Rattle.ix_model.specs.declared.rules.Sym.TheVariants as S
use Rattle.ix_model.specs.declared.sub.Sub.{Sub}
use Rattle.ix_model.specs.Expansion.Parts.{Parts}
use Rattle.ix_model.specs.Expansion.Planned.{IsPlanned}
use Rattle.ix_model.specs.Expansion.Slots.{info_at, sym_after}
use Rattle.ix_model.specs.Expansion.FlatDerives.{IsTerminal}
use Rattle.ix_model.specs.Expansion.SlotPlaces.{HasNext, IsFirstSlot, IsLastSlot}
use Rattle.ix_model.specs.Closure.Closed.{Called, start, by_edge, begun, arrived, Edge, waiting, End, ended, Part, empty, scanned, inserted, joined}
use Rattle.ix_model.specs.Closure.Useful.{sub_at}
use Rattle.ix_examples.specs.SmallPlans.{call, literal, only_a, cycle, two_alternatives}
use Rattle.ix_closure_laws.proofs.ClosedWithin.{part_within}
use Rattle.ix_model.proofs.SlotReaders.{first_reads, last_reads, next_reads, reads_first, reads_last, reads_next}
use Rattle.ix_examples.proofs.SmallPlans.{planned_alternatives, literal_stands}
use Rattle.ix_examples.proofs.SmallClosures.{part_a, part_1, no_part_b, part_c, part_1c, part_3c}
use Rattle.ix_closure_laws.specs.PartLists.{AreParts}
use Rattle.ix_examples.specs.TestPlans.{repeated_nothing}
use Rattle.ix_subtrees.proofs.Lists.{each_of}

pub same_sub : (s l k r a b c d : ℕ) → s ≡ a → l ≡ b → k ≡ c → r ≡ d → sub_at s l k r ≡ sub_at a b c d
same_sub s l k r a b c d e f g h =
    ap (λ (z : ℕ). sub_at z l k r) e ∙ ap (λ (z : ℕ). sub_at a z k r) f ∙ ap (λ (z : ℕ). sub_at a b z r) g ∙ ap (λ (z : ℕ). sub_at a b c z) h

abbrev pub PartOf : Parts → Sub → Type 0
PartOf plan sub = Part plan sub.slot sub.left sub.pivot sub.right

-- a list has exactly the subtrees where each of it is one and it has each
pub are_parts : (plan : Parts) (subs : List Sub) → AllByRecursion (PartOf plan) subs → ((s l k r : ℕ) → Part plan s l k r → Contains subs (sub_at s l k r)) → AreParts plan subs
are_parts plan subs each all sub = (each_of (PartOf plan) subs sub each, all sub.slot sub.left sub.pivot sub.right)

-- ---- S: "a". on a and on b, and S: S; "a". on a

pub parts_a : AreParts (only_a (codes "a")) (sub_at 1 0 0 1 ∷ [])
parts_a = are_parts (only_a (codes "a")) (sub_at 1 0 0 1 ∷ []) (part_1, tt) (λ s l k r h. let p = part_a s l k r h in (0, omega arith, sym (same_sub s l k r 1 0 0 1 p.0 p.1 p.2 p.3)))

pub parts_b : AreParts (only_a (codes "b")) []
parts_b = are_parts (only_a (codes "b")) [] tt (λ s l k r h. absurd (no_part_b s l k r h))

pub parts_cycle : AreParts (cycle (codes "a")) (sub_at 3 0 0 1 ∷ sub_at 1 0 0 1 ∷ [])
parts_cycle = are_parts (cycle (codes "a")) (sub_at 3 0 0 1 ∷ sub_at 1 0 0 1 ∷ []) (part_3c, (part_1c, tt)) all
  where
    all : (s l k r : ℕ) → Part (cycle (codes "a")) s l k r → Contains (sub_at 3 0 0 1 ∷ sub_at 1 0 0 1 ∷ []) (sub_at s l k r)
    all s l k r h =
        let p = part_c s l k r h in
        elim p.0 [ inl e ↦ (1, omega arith, sym (same_sub s l k r 1 0 0 1 e p.1 p.2 p.3)) | inr e ↦ (0, omega arith, sym (same_sub s l k r 3 0 0 1 e p.1 p.2 p.3)) ]

-- ---- how a slot has a subtree

-- it is the slot of an empty alternative, or the one before it has a symbol
abbrev HasCause : Parts → ℕ → Type 0
HasCause plan s = ((sym_after plan s ≡ None) × ((info_at plan s).dot ≡ 0)) ⊎ ((v : ℕ) × (x : Sym) × (s ≡ v + 1) × (sym_after plan v ≡ Some x))

module _ (plan : Parts) (planned : IsPlanned plan) where
  pub part_cause : (s l k r : ℕ) → Part plan s l k r → HasCause plan s
  part_cause s l k r (empty rule at slot c f g) = inl ((last_reads plan slot rule g).2, (first_reads plan slot rule f).2)
  part_cause s l k r (scanned slot left pivot after right x d h t) = let n = next_reads plan planned slot after x h in inr (slot, x, n.2, n.1)
  part_cause s l k r (inserted slot left pivot after n d h) = let m = next_reads plan planned slot after (S.Insert n) h in inr (slot, S.Insert n, m.2, m.1)
  part_cause s l k r (joined rule pivot slot left right after mark e f h) = let n = next_reads plan planned slot after (S.Rule rule mark) h in inr (slot, S.Rule rule mark, n.2, n.1)

-- ---- S: ()+. on the empty text

planned_repeated : IsPlanned repeated_nothing
planned_repeated = search rules

abbrev repeated_subs : List Sub
repeated_subs = sub_at 7 0 0 0 ∷ sub_at 1 0 0 0 ∷ sub_at 3 0 0 0 ∷ sub_at 5 0 0 0 ∷ sub_at 6 0 0 0 ∷ []

next_repeated : (s : ℕ) (x : Sym) → s < 8 → sym_after repeated_nothing s ≡ Some x → HasNext repeated_nothing s (s + 1) x
next_repeated s x h e = reads_next repeated_nothing planned_repeated s (s + 1) x (h, e, refl)

first_repeated : (s r : ℕ) → s < 8 → (info_at repeated_nothing s).head ≡ r → (info_at repeated_nothing s).dot ≡ 0 → IsFirstSlot repeated_nothing s r
first_repeated s r h e f = reads_first repeated_nothing planned_repeated s r (h, e, f)

last_repeated : (s r : ℕ) → s < 8 → (info_at repeated_nothing s).head ≡ r → sym_after repeated_nothing s ≡ None → IsLastSlot repeated_nothing s r
last_repeated s r h e f = reads_last repeated_nothing planned_repeated s r (h, e, f)

edge_list : Edge repeated_nothing 1 0 0 0
edge_list = waiting 0 0 0 1 1 None (begun 0 0 0 start (first_repeated 0 0 (omega arith) refl refl)) (next_repeated 0 (call 1) (omega arith) refl)

called_list : Called repeated_nothing 1 0
called_list = by_edge 1 0 0 0 edge_list

edge_group : Edge repeated_nothing 2 0 2 0
edge_group = waiting 2 0 0 3 2 None (begun 1 0 2 called_list (first_repeated 2 1 (omega arith) refl refl)) (next_repeated 2 (call 2) (omega arith) refl)

part_group : Part repeated_nothing 7 0 0 0
part_group = empty 2 0 7 (by_edge 2 0 2 0 edge_group) (first_repeated 7 2 (omega arith) refl refl) (last_repeated 7 2 (omega arith) refl refl)

end_group : End repeated_nothing 2 0 0
end_group = ended 7 0 0 2 (arrived 7 0 0 0 part_group) (last_repeated 7 2 (omega arith) refl refl)

part_one : Part repeated_nothing 3 0 0 0
part_one = joined 2 0 2 0 0 3 None edge_group end_group (next_repeated 2 (call 2) (omega arith) refl)

end_list : End repeated_nothing 1 0 0
end_list = ended 3 0 0 1 (arrived 3 0 0 0 part_one) (last_repeated 3 1 (omega arith) refl refl)

part_whole : Part repeated_nothing 1 0 0 0
part_whole = joined 1 0 0 0 0 1 None edge_list end_list (next_repeated 0 (call 1) (omega arith) refl)

part_first : Part repeated_nothing 5 0 0 0
part_first =
    joined 1 0 4 0 0 5 None (waiting 4 0 0 5 1 None (begun 1 0 4 called_list (first_repeated 4 1 (omega arith) refl refl)) (next_repeated 4 (call 1) (omega arith) refl)) end_list (next_repeated 4 (call 1) (omega arith) refl)

part_again : Part repeated_nothing 6 0 0 0
part_again = joined 2 0 5 0 0 6 None (waiting 5 0 0 6 2 None (arrived 5 0 0 0 part_first) (next_repeated 5 (call 2) (omega arith) refl)) end_group (next_repeated 5 (call 2) (omega arith) refl)

pub parts_repeated : AreParts repeated_nothing repeated_subs
parts_repeated = are_parts repeated_nothing repeated_subs (part_group, (part_whole, (part_one, (part_first, (part_again, tt))))) all
  where
    slot : (s : ℕ) → s < 8 → HasCause repeated_nothing s → Contains repeated_subs (sub_at s 0 0 0)
    slot zero h (inl c) = absurd (cc c.0)
    slot zero h (inr c) = absurd (omega (arith, c.2))
    slot (suc zero) h c = (1, omega arith, refl)
    slot (suc (suc zero)) h (inl c) = absurd (cc c.0)
    slot (suc (suc zero)) h (inr c) = let e : 1 ≡ c.0 = omega (arith, c.2) in absurd (cc (subst (λ (v : ℕ). sym_after repeated_nothing v ≡ Some c.1) (sym e) c.3))
    slot (suc (suc (suc zero))) h c = (2, omega arith, refl)
    slot (suc (suc (suc (suc zero)))) h (inl c) = absurd (cc c.0)
    slot (suc (suc (suc (suc zero)))) h (inr c) = let e : 3 ≡ c.0 = omega (arith, c.2) in absurd (cc (subst (λ (v : ℕ). sym_after repeated_nothing v ≡ Some c.1) (sym e) c.3))
    slot (suc (suc (suc (suc (suc zero))))) h c = (3, omega arith, refl)
    slot (suc (suc (suc (suc (suc (suc zero)))))) h c = (4, omega arith, refl)
    slot (suc (suc (suc (suc (suc (suc (suc zero))))))) h c = (0, omega arith, refl)
    slot (suc (suc (suc (suc (suc (suc (suc (suc s)))))))) h c = absurd (omega (arith, h))

    all : (s l k r : ℕ) → Part repeated_nothing s l k r → Contains repeated_subs (sub_at s l k r)
    all s l k r h =
        let w = part_within repeated_nothing planned_repeated s l k r h in
        let e : sub_at s 0 0 0 ≡ sub_at s l k r = same_sub s 0 0 0 s l k r refl (omega (arith, w.1, w.2, w.3)) (omega (arith, w.2, w.3)) (omega (arith, w.3)) in
        subst (λ (z : Sub). Contains repeated_subs z) e (slot s w.0 (part_cause repeated_nothing planned_repeated s l k r h))

-- ---- S: "a"; "a". on a

abbrev alternatives : Parts
alternatives = two_alternatives (codes "a")

none_is_some : {X : Type 0} (x : X) → None ≡ Some x → ⊥
none_is_some x e = absurd (cc e)

-- each symbol is the literal, which stands before slots 1 and 3
after_alternatives : (s after : ℕ) (x : Sym) → s < 4 → sym_after alternatives s ≡ Some x → after ≡ s + 1 → ((after ≡ 1) ⊎ (after ≡ 3)) × (x ≡ literal 0)
after_alternatives zero after x h e f = (inl f, sym (cc e))
after_alternatives (suc zero) after x h e f = absurd (none_is_some x e)
after_alternatives (suc (suc zero)) after x h e f = (inr f, sym (cc e))
after_alternatives (suc (suc (suc zero))) after x h e f = absurd (none_is_some x e)
after_alternatives (suc (suc (suc (suc s)))) after x h e f = absurd (omega (arith, h))

next_alternatives : (s after : ℕ) (x : Sym) → HasNext alternatives s after x → ((after ≡ 1) ⊎ (after ≡ 3)) × (x ≡ literal 0)
next_alternatives s after x h = let n = next_reads alternatives planned_alternatives s after x h in after_alternatives s after x n.0 n.1 n.2

called_alternatives : (q p : ℕ) → Called alternatives q p → (q ≡ 0) × (p ≡ 0)
called_alternatives q p start = (refl, refl)
called_alternatives q p (by_edge rule at slot left (waiting s l k after r mark d h)) = absurd (cc (next_alternatives s after (S.Rule r mark) h).1)

first_not_last : (s r q : ℕ) → IsFirstSlot alternatives s r → IsLastSlot alternatives s q → ⊥
first_not_last s r q f g = let a = first_reads alternatives s r f in let b = last_reads alternatives s q g in go s a.0 a.2 b.2
  where
    go : (s : ℕ) → s < 4 → (info_at alternatives s).dot ≡ 0 → sym_after alternatives s ≡ None → ⊥
    go zero h e f = absurd (cc f)
    go (suc zero) h e f = absurd (cc e)
    go (suc (suc zero)) h e f = absurd (cc f)
    go (suc (suc (suc zero))) h e f = absurd (cc e)
    go (suc (suc (suc (suc s)))) h e f = absurd (omega (arith, h))

from_alternatives : (s l k r : ℕ) → Part alternatives s l k r → ((s ≡ 1) ⊎ (s ≡ 3)) × (k ≡ 0) × (r ≡ 1)
from_alternatives s l k r (empty rule at slot c f g) = absurd (first_not_last slot rule rule f g)
from_alternatives s l k r (scanned slot left pivot after right x d h t) =
    let n = next_alternatives slot after x h in
    let m = literal_stands alternatives 0 pivot right (codes "a") refl (subst (λ (z : Sym). IsTerminal alternatives z pivot right) n.1 t) in
    (n.0, omega (arith, m.0, m.1), omega (arith, m.0, m.1))
from_alternatives s l k r (inserted slot left pivot after n d h) = absurd (cc (next_alternatives slot after (S.Insert n) h).1)
from_alternatives s l k r (joined rule pivot slot left right after mark e f h) = absurd (cc (next_alternatives slot after (S.Rule rule mark) h).1)

part_by : (s : ℕ) → s + 1 < 4 → (info_at alternatives s).head ≡ 0 → (info_at alternatives s).dot ≡ 0 → sym_after alternatives s ≡ Some (literal 0) → Part alternatives (s + 1) 0 0 1
part_by s h e f g =
    scanned s 0 0 (s + 1) 1 (literal 0) (begun 0 0 s start (reads_first alternatives planned_alternatives s 0 (omega (arith, h), e, f)))
    (reads_next alternatives planned_alternatives s (s + 1) (literal 0) (omega (arith, h), g, refl)) (0, true, _, refl, refl, (refl, omega arith, refl))

pub parts_alternatives : AreParts alternatives (sub_at 3 0 0 1 ∷ sub_at 1 0 0 1 ∷ [])
parts_alternatives = are_parts alternatives (sub_at 3 0 0 1 ∷ sub_at 1 0 0 1 ∷ []) (part_by 2 (omega arith) refl refl refl, (part_by 0 (omega arith) refl refl refl, tt)) all
  where
    all : (s l k r : ℕ) → Part alternatives s l k r → Contains (sub_at 3 0 0 1 ∷ sub_at 1 0 0 1 ∷ []) (sub_at s l k r)
    all s l k r h =
        let p = from_alternatives s l k r h in
        let w = part_within alternatives planned_alternatives s l k r h in
        let z : l ≡ 0 = omega (arith, w.1, p.1) in
        elim p.0 [ inl e ↦ (1, omega arith, sym (same_sub s l k r 1 0 0 1 e z p.1 p.2)) | inr e ↦ (0, omega arith, sym (same_sub s l k r 3 0 0 1 e z p.1 p.2)) ]
