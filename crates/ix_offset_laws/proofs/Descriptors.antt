-- Descriptors at the slots of the alternatives of called rules, and how a tree of a symbol moves them on.
use Rattle.std.proofs.Common.{◌≡◌, refl, ◌+◌, ℕ, List, Option, Some, arith, slice_get, map}
use Rattle.std.proofs.lemmas.Option.{slice_get_within}
use Rattle.ix_model.specs.declared.grammar.Mark.{Mark}
use Rattle.ix_model.specs.declared.rules.Kind.{Kind}
use Rattle.ix_model.specs.declared.rules.Sym.{Sym}
use Rattle.ix_model.specs.declared.rules.Sym.TheVariants as sy
use Rattle.ix_model.specs.Expansion.Parts.{Parts}
use Rattle.ix_model.specs.Expansion.Planned.{IsPlanned}
use Rattle.ix_model.specs.Expansion.Slots.{IsSlot}
use Rattle.ix_model.specs.Expansion.FlatTrees.{FlatTree}
use Rattle.ix_model.specs.Expansion.FlatDerives.{FlatDerives, IsLine}
use Rattle.ix_model.specs.Expansion.Expanded.{line, HasFlat}
use Rattle.ix_model.specs.Expansion.SlotPlaces.{HasNext}
use Rattle.ix_model.specs.Closure.Closed.{Called, by_edge, Desc, begun, arrived, waiting}
use Rattle.ix_expansion_laws.proofs.Lowering.{map_get}
use Rattle.ix_model.proofs.SlotPlaces.{slot_for}
use Rattle.ix_closure_laws.proofs.TreesClosed.{symbol_closed}

module _ (plan : Parts) where
  -- a descriptor stands at p with its dot before the symbol
  pub record Before (y : Sym) (p : ℕ) : Type 0 where
    pub slot : ℕ
    pub left : ℕ
    pub after : ℕ
    pub desc : Desc plan slot left p
    pub next : HasNext plan slot after y

  -- an alternative of a numbered rule, by the list of its symbols
  pub line_at : (r a : ℕ) (k : Kind) (lines : List (List Sym)) (syms : List Sym) → HasFlat plan.rules r k lines → slice_get lines a ≡ Some syms → IsLine plan r a syms
  line_at r a k lines syms f e = (record { kind = k; lines = map line lines }, line syms, f, map_get line lines a syms e, refl)

  -- a rule that a descriptor stands before is called there
  pub called_before : (r : ℕ) (m : Option Mark) (p : ℕ) → Before (sy.Rule r m) p → Called plan r p
  called_before r m p b = by_edge r p b.slot b.left (waiting b.slot b.left p b.after r m b.desc b.next)

  module _ (planned : IsPlanned plan) where
    -- the first slot of an alternative of a called rule
    pub first_desc : (r a p : ℕ) (syms : List Sym) → IsLine plan r a syms → Called plan r p → (n : ℕ) × IsSlot plan n r a 0 × Desc plan n p p
    first_desc r a p syms here c =
        let v = slot_for plan planned r a 0 syms here (omega arith) in
        (v.0, v.1, begun r p v.0 c (a, syms, v.1, here))

    -- the slot behind a symbol
    pub after_slot : (slot r a n : ℕ) (syms : List Sym) (y : Sym) → IsLine plan r a syms → IsSlot plan slot r a n → slice_get syms n ≡ Some y → (after : ℕ) × IsSlot plan after r a (n + 1) × HasNext plan slot after y
    after_slot slot r a n syms y here at e =
        let v = slot_for plan planned r a (n + 1) syms here (omega (arith, slice_get_within syms n y e)) in
        (v.0, v.1, (r, a, n, syms, at, v.1, here, e))

    -- the descriptor of a slot stands before the symbol behind its dot
    pub before_at : (slot left p r a n : ℕ) (syms : List Sym) (y : Sym) → IsLine plan r a syms → IsSlot plan slot r a n → slice_get syms n ≡ Some y → Desc plan slot left p → Before y p
    before_at slot left p r a n syms y here at e d =
        let v = after_slot slot r a n syms y here at e in
        record { slot = slot; left = left; after = v.0; desc = d; next = v.2 }

    -- the first symbol of an alternative of a called rule
    pub before_first : (r a p : ℕ) (syms : List Sym) (y : Sym) → IsLine plan r a syms → Called plan r p → slice_get syms 0 ≡ Some y → Before y p
    before_first r a p syms y here c e =
        let v = first_desc r a p syms here c in
        before_at v.0 p p r a 0 syms y here v.1 e v.2

    -- where a tree derives from the symbol, the descriptor moves behind it
    pub passed : (slot left after p e : ℕ) (y : Sym) (d : FlatTree) → Desc plan slot left p → HasNext plan slot after y → FlatDerives plan d y p e → Desc plan after left e
    passed slot left after p e y d h n t = arrived after left p e (symbol_closed plan planned d slot after left p e y h n t)
