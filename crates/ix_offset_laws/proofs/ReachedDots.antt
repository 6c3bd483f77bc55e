-- The position of each descriptor is 0, or the end of a literal or set that is entered and matches.
use Rattle.std.proofs.Common.{◌≡◌, refl, ◌⊎◌, ℕ, Some, slice_get}
use mathlib.Core.Logic.{inl, inr}
use Rattle.std.specs.List.{AllByRecursion}
use Rattle.std.specs.Char.{IsScalar}
use Rattle.ix_model.specs.declared.grammar.Grammar.{Grammar}
use Rattle.ix_model.specs.declared.grammar.Rule.{Rule}
use Rattle.ix_model.specs.declared.rules.Sym.{Sym}
use Rattle.ix_model.specs.Expansion.Parts.{Parts}
use Rattle.ix_model.specs.Derivations.Offset.{IsReached}
use Rattle.ix_model.specs.Expansion.FlatTrees.{flat_text}
use Rattle.ix_model.specs.Expansion.FlatDerives.{IsTerminal}
use Rattle.ix_model.specs.Expansion.Expanded.{Expanded}
use Rattle.ix_model.specs.Closure.Closed.{Called, start, by_edge, Desc, begun, arrived, Edge, waiting, End, ended, Part, empty, scanned, inserted, joined}
use Rattle.ix_expansion_laws.proofs.Lifting.{lifts}
use Rattle.ix_offset_laws.proofs.Following.{SymbolEntered, of_term, of_list}
use Rattle.ix_offset_laws.proofs.FollowedDots.{next_followed, desc_followed}

module _ (g : Grammar) (plan : Parts) (chars : AllByRecursion IsScalar plan.text) (x : Expanded g plan.rules) (rule0 : Rule) (at0 : slice_get g.rules 0 ≡ Some rule0) where
  -- a terminal that is entered and matches ends where a literal or set that is entered does
  entered_reached : (y : Sym) (p e : ℕ) → SymbolEntered g plan y p → IsTerminal plan y p e → IsReached g plan.text e
  entered_reached y p e (of_term a b t _ _ w h) m = (t, p, h, ((lifts g plan.rules plan.slots plan.text chars x (flat_text p e)).term a b t y p e w (refl, refl, m)).2)
  entered_reached y p e (of_list a b t f sep _ _ w rep h) m = absurd (cc ((lifts g plan.rules plan.slots plan.text chars x (flat_text p e)).repeats a b f sep y p e w (refl, refl, m)).1)

  abbrev pub IsZeroOrReached : ℕ → Type 0
  IsZeroOrReached p = (p ≡ 0) ⊎ IsReached g plan.text p

  mutual
    called_reached : (q p : ℕ) → Called plan q p → IsZeroOrReached p
    called_reached q p start = inl refl
    called_reached q p (by_edge rule at n left e) = edge_reached rule at n left e

    edge_reached : (q p n l : ℕ) → Edge plan q p n l → IsZeroOrReached p
    edge_reached q p n l (waiting slot left at after rule mark d h) = desc_reached slot left at d

    -- each descriptor
    pub desc_reached : (n l p : ℕ) → Desc plan n l p → IsZeroOrReached p
    desc_reached n l p (begun rule at slot c f) = called_reached rule at c
    desc_reached n l p (arrived slot left pivot right h) = part_reached slot left pivot right h

    end_reached : (q l e : ℕ) → End plan q l e → IsZeroOrReached e
    end_reached q l e (ended slot left right rule d h) = desc_reached slot left right d

    part_reached : (n l k r : ℕ) → Part plan n l k r → IsZeroOrReached r
    part_reached n l k r (empty rule at slot c f e) = called_reached rule at c
    part_reached n l k r (scanned slot left pivot after right y d h t) = inr (entered_reached y pivot right (next_followed g plan chars x slot after pivot y h (desc_followed g plan chars x rule0 at0 slot left pivot d)).0 t)
    part_reached n l k r (inserted slot left pivot after m d h) = desc_reached slot left pivot d
    part_reached n l k r (joined rule pivot slot left right after mark e f h) = end_reached rule pivot right f
