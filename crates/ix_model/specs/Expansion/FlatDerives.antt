-- Which trees derive a span of the text of a plan from a symbol of its numbered rules.
-- A tree is finite, so the recursion on it is the least relation with one case for each form of symbol.
use Rattle.std.specs.Prelude.{◌≡◌, ℕ, Bool, List, [], ◌∷◌, length, Option, Some, None, slice_get}
use Rattle.ix_model.specs.declared.grammar.Mark.{Mark}
use Rattle.ix_model.specs.declared.rules.Sym.{Sym}
use Rattle.ix_model.specs.declared.rules.Sym.TheVariants as sym
use Rattle.ix_model.specs.declared.rules.Line.{Line}
use Rattle.ix_model.specs.declared.rules.Flat.{Flat}
use Rattle.ix_model.specs.declared.rules.Terminal.{Terminal}
use Rattle.ix_model.specs.declared.rules.Terminal.TheVariants as terminal
use Rattle.ix_model.specs.Expansion.Parts.{Parts}
use Rattle.ix_model.specs.Matching.Ranges.{IsInRanges}
use Rattle.ix_model.specs.Matching.Terminals.{StandsAt}
use Rattle.ix_model.specs.Expansion.FlatTrees.{FlatTree, flat_text, flat_insertion, flat_node, FlatTrees, no_flat, flats_and, flat_count}

-- the terminal matches the characters of the text from i to j
abbrev pub TerminalMatches : List ℕ → Terminal → ℕ → ℕ → Type 0
TerminalMatches s (terminal.Lit cs) i j = StandsAt s cs i j
TerminalMatches s (terminal.Set ranges) i j = (c : ℕ) × IsInRanges c ranges × StandsAt s (c ∷ []) i j

module _ (plan : Parts) where
  -- alternative a of rule r has these symbols
  abbrev pub IsLine : ℕ → ℕ → List Sym → Type 0
  IsLine r a syms = (flat : Flat) × (line : Line) × (slice_get plan.rules.flats r ≡ Some flat) × (slice_get flat.lines a ≡ Some line) × (line.syms ≡ syms)

  -- the symbol is a terminal that matches from i to j
  abbrev pub IsTerminal : Sym → ℕ → ℕ → Type 0
  IsTerminal x i j = (t : ℕ) × (shown : Bool) × (terminal : Terminal) × (x ≡ sym.Term t shown) × (slice_get plan.rules.terminals t ≡ Some terminal) × TerminalMatches plan.text terminal i j

  abbrev mutual
    -- the tree derives the characters from i to j from the symbol
    pub FlatDerives : FlatTree → Sym → ℕ → ℕ → Type 0
    FlatDerives (flat_text a b) x i j = (a ≡ i) × (b ≡ j) × IsTerminal x i j
    FlatDerives flat_insertion x i j = (n : ℕ) × (x ≡ sym.Insert n) × (i ≡ j)
    FlatDerives (flat_node r a ds) x i j = (mark : Option Mark) × (x ≡ sym.Rule r mark) × (syms : List Sym) × IsLine r a syms × (flat_count ds ≡ length syms) × FlatDerivesFirst ds syms i j

    -- one tree for each of the first symbols, over adjoining spans from i to j
    pub FlatDerivesFirst : FlatTrees → List Sym → ℕ → ℕ → Type 0
    FlatDerivesFirst no_flat syms i j = i ≡ j
    FlatDerivesFirst (flats_and ds d) syms i j = (k : ℕ) × (x : Sym) × FlatDerivesFirst ds syms i k × (slice_get syms (flat_count ds) ≡ Some x) × FlatDerives d x k j

  -- the tree derives the whole text from the first rule
  abbrev pub IsFlatDerivation : FlatTree → Type 0
  IsFlatDerivation d = FlatDerives d (sym.Rule 0 None) 0 (length plan.text)
