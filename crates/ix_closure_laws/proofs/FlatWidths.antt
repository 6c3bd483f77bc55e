-- A tree over the numbered rules is as wide as the span that it derives, whatever the mark of its call.
use Rattle.std.proofs.Common.{◌≡◌, ap, ◌+◌, ◌≤◌, ℕ, List, Option, arith}
use Rattle.ix_model.specs.declared.grammar.Mark.{Mark}
use Rattle.ix_model.specs.declared.rules.Sym.{Sym}
use Rattle.ix_model.specs.declared.rules.Sym.TheVariants as sy
use Rattle.ix_model.specs.declared.rules.Terminal.{Terminal}
use Rattle.ix_model.specs.declared.rules.Terminal.TheVariants as terminal
use Rattle.ix_model.specs.Expansion.Parts.{Parts}
use Rattle.ix_model.specs.Expansion.FlatTrees.{FlatTree, flat_text, flat_insertion, flat_node, FlatTrees, no_flat, flats_and, flat_width, flat_widths}
use Rattle.ix_model.specs.Expansion.FlatDerives.{FlatDerives, FlatDerivesFirst, TerminalMatches}

module _ (plan : Parts) where
  terminal_forward : (t : Terminal) (i j : ℕ) → TerminalMatches plan.text t i j → i ≤ j
  terminal_forward (terminal.Lit cs) i j h = omega (arith, h.0)
  terminal_forward (terminal.Set rs) i j h = omega (arith, h.2)

  mutual
    pub width_is : (d : FlatTree) (x : Sym) (i j : ℕ) → FlatDerives plan d x i j → i + flat_width d ≡ j
    width_is (flat_text a b) x i j h = omega (arith, h.0, h.1, terminal_forward h.2.2 i j h.2.5)
    width_is flat_insertion x i j h = omega (arith, h.2)
    width_is (flat_node r a ds) x i j h = widths_are ds h.2 i j h.5

    pub widths_are : (ds : FlatTrees) (syms : List Sym) (i j : ℕ) → FlatDerivesFirst plan ds syms i j → i + flat_widths ds ≡ j
    widths_are no_flat syms i j h = omega (arith, h)
    widths_are (flats_and ds d) syms i j h = omega (arith, widths_are ds syms i h.0 h.2, width_is d h.1 h.0 j h.4)

  -- the mark of a call is free
  pub marked : (d : FlatTree) (q i j : ℕ) (m n : Option Mark) → FlatDerives plan d (sy.Rule q m) i j → FlatDerives plan d (sy.Rule q n) i j
  marked (flat_text a b) q i j m n h = absurd (cc h.2.3)
  marked flat_insertion q i j m n h = absurd (cc h.1)
  marked (flat_node r a ds) q i j m n h =
      let e : q ≡ r = cc h.1 in
      (n, ap (λ (z : ℕ). sy.Rule z n) e, h.2, h.3, h.4, h.5)
