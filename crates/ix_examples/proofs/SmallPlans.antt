-- The plans of the worked examples are plans, and what their literals match.
use Rattle.std.proofs.Common.{rules, ◌≡◌, subst, ℕ, List, Some, codes, slice_get}
use Rattle.ix_model.specs.declared.rules.Terminal.{Terminal}
use Rattle.ix_model.specs.declared.rules.Terminal.TheVariants as terminal
use Rattle.ix_model.specs.Expansion.Parts.{Parts}
use Rattle.ix_model.specs.Expansion.Planned.{IsPlanned}
use Rattle.ix_model.specs.Matching.Terminals.{StandsAt}
use Rattle.ix_model.specs.Expansion.FlatTrees.{FlatTree, flat_text, flat_insertion, flat_node}
use Rattle.ix_model.specs.Expansion.FlatDerives.{FlatDerives, IsTerminal, TerminalMatches}
use Rattle.ix_examples.specs.SmallPlans.{literal, only_a, two_beginnings, two_alternatives, two_halves}

pub planned_a : IsPlanned (only_a (codes "a"))
planned_a = search rules

pub planned_b : IsPlanned (only_a (codes "b"))
planned_b = search rules

pub planned_beginnings : IsPlanned (two_beginnings (codes "a"))
planned_beginnings = search rules

pub planned_ab : IsPlanned (two_beginnings (codes "ab"))
planned_ab = search rules

pub planned_alternatives : IsPlanned (two_alternatives (codes "a"))
planned_alternatives = search rules

pub planned_halves : IsPlanned (two_halves (codes "a"))
planned_halves = search rules

module _ (plan : Parts) where
  -- what a literal matches
  pub literal_stands : (n i j : ℕ) (cs : List ℕ) → slice_get plan.rules.terminals n ≡ Some (terminal.Lit cs) → IsTerminal plan (literal n) i j → StandsAt plan.text cs i j
  literal_stands n i j cs at h =
      let e : h.2 ≡ terminal.Lit cs = cc (h.3, h.4, at) in
      subst (λ (z : Terminal). TerminalMatches plan.text z i j) e h.5

  -- a tree of a literal is its text
  pub literal_derived : (d : FlatTree) (n i j : ℕ) → FlatDerives plan d (literal n) i j → IsTerminal plan (literal n) i j
  literal_derived (flat_text a b) n i j h = h.2
  literal_derived flat_insertion n i j h = absurd (cc h.1)
  literal_derived (flat_node r a ds) n i j h = absurd (cc h.1)
