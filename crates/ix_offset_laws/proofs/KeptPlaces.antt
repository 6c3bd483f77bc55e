-- What holds of all calls, descriptors and ends of a closure, where each of its steps keeps to it.
use Rattle.std.proofs.Common.{◌≡◌, sym, subst, ◌+◌, ◌<◌, ℕ, length, Option, Some, None}
use Rattle.ix_model.specs.declared.grammar.Mark.{Mark}
use Rattle.ix_model.specs.declared.rules.Sym.{Sym}
use Rattle.ix_model.specs.declared.rules.Sym.TheVariants as sy
use Rattle.ix_model.specs.Expansion.Parts.{Parts}
use Rattle.ix_model.specs.Expansion.Planned.{IsPlanned}
use Rattle.ix_model.specs.Expansion.Slots.{info_at, sym_after}
use Rattle.ix_model.specs.Expansion.FlatDerives.{IsTerminal}
use Rattle.ix_model.specs.Closure.Closed.{Called, start, by_edge, Desc, begun, arrived, waiting, End, ended, Part, empty, scanned, inserted, joined}
use Rattle.ix_model.proofs.SlotReaders.{first_reads, last_reads, next_reads}

-- at the front of the text
abbrev pub AtFront : ℕ → ℕ → Type 0
AtFront n p = p ≡ 0

module _ (plan : Parts) (IsCall IsDot IsEnd : ℕ → ℕ → Type 0) where
  -- each step of the closure keeps to these calls, dots and ends
  pub record AreKept : Type 0 where
    pub start : IsCall 0 0
    pub begin : (s r p : ℕ) → s < length plan.slots → (info_at plan s).head ≡ r → (info_at plan s).dot ≡ 0 → IsCall r p → IsDot s p
    pub call : (s r p : ℕ) (m : Option Mark) → sym_after plan s ≡ Some (sy.Rule r m) → IsDot s p → IsCall r p
    pub end : (s r p : ℕ) → (info_at plan s).head ≡ r → sym_after plan s ≡ None → IsDot s p → IsEnd r p
    pub scan : (s p e : ℕ) (x : Sym) → sym_after plan s ≡ Some x → IsTerminal plan x p e → IsDot s p → IsDot (s + 1) e
    pub insert : (s p n : ℕ) → sym_after plan s ≡ Some (sy.Insert n) → IsDot s p → IsDot (s + 1) p
    pub join : (s r p e : ℕ) (m : Option Mark) → sym_after plan s ≡ Some (sy.Rule r m) → IsDot s p → IsEnd r e → IsDot (s + 1) e

  module _ (planned : IsPlanned plan) (kept : AreKept) where
    next_dot : (s after e : ℕ) → after ≡ s + 1 → IsDot (s + 1) e → IsDot after e
    next_dot s after e n = subst (λ (z : ℕ). IsDot z e) (sym n)

    mutual
      called_kept : (r p : ℕ) → Called plan r p → IsCall r p
      called_kept r p start = kept.start
      called_kept r p (by_edge rule at slot left (waiting s l k after q mark d h)) = kept.call slot rule at mark (next_reads plan planned slot after (sy.Rule rule mark) h).1 (desc_kept slot left at d)

      pub desc_kept : (s l p : ℕ) → Desc plan s l p → IsDot s p
      desc_kept s l p (begun rule at slot c f) =
          let n = first_reads plan slot rule f in
          kept.begin slot rule at n.0 n.1 n.2 (called_kept rule at c)
      desc_kept s l p (arrived slot left pivot right h) = part_kept slot left pivot right h

      end_kept : (r l e : ℕ) → End plan r l e → IsEnd r e
      end_kept r l e (ended slot left right rule d h) =
          let n = last_reads plan slot rule h in
          kept.end slot rule right n.1 n.2 (desc_kept slot left right d)

      part_kept : (s l k e : ℕ) → Part plan s l k e → IsDot s e
      part_kept s l k e (empty rule at slot c f g) =
          let n = first_reads plan slot rule f in
          kept.begin slot rule at n.0 n.1 n.2 (called_kept rule at c)
      part_kept s l k e (scanned slot left pivot after right x d h t) =
          let n = next_reads plan planned slot after x h in
          next_dot slot after right n.2 (kept.scan slot pivot right x n.1 t (desc_kept slot left pivot d))
      part_kept s l k e (inserted slot left pivot after m d h) =
          let n = next_reads plan planned slot after (sy.Insert m) h in
          next_dot slot after pivot n.2 (kept.insert slot pivot m n.1 (desc_kept slot left pivot d))
      part_kept s l k e (joined rule pivot slot left right after mark (waiting s2 l2 at ak ru ma d g) f h) =
          let n = next_reads plan planned slot after (sy.Rule rule mark) h in
          next_dot slot after right n.2 (kept.join slot rule pivot right mark n.1 (desc_kept slot left pivot d) (end_kept rule pivot right f))
