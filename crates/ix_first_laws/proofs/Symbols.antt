-- The first tree of a terminal or an insertion over a span.
use Rattle.std.proofs.Common.{◌≡◌, refl, sym, subst, ◌∙◌, ◌⊎◌, ◌≤◌, ℕ, List, [], ◌∷◌, take, drop, arith, slice_get, Option, Some, None, Bool}
use mathlib.Core.Logic.{inl, inr}
use Rattle.ix_model.specs.declared.rules.Sym.{Sym}
use Rattle.ix_model.specs.declared.rules.Sym.TheVariants as sy
use Rattle.ix_model.specs.declared.char_set.CharRange.{CharRange}
use Rattle.ix_model.specs.declared.rules.Terminal.{Terminal}
use Rattle.ix_model.specs.declared.rules.Terminal.TheVariants as terminal
use Rattle.ix_model.specs.Matching.Ranges.{IsInRanges}
use Rattle.ix_model.specs.Matching.Terminals.{StandsAt}
use Rattle.ix_model.specs.Expansion.Parts.{Parts}
use Rattle.ix_model.specs.Expansion.FlatTrees.{FlatTree, flat_text, flat_insertion, flat_node}
use Rattle.ix_model.specs.Expansion.FlatDerives.{IsTerminal, TerminalMatches}
use Rattle.ix_model.specs.Expansion.FlatOrder.{FlatBefore}
use Rattle.ix_model.proofs.Decide.{Answered, both, either}
use Rattle.ix_model.proofs.Standing.{stands}
use Rattle.ix_tree_laws.proofs.Found.{Found}
use Rattle.ix_first_laws.specs.Bounded.{TreeWithin}

in_ranges : (c : ℕ) (rs : List CharRange) → Answered (IsInRanges c rs)
in_ranges c [] = inr (λ h. h)
in_ranges c (r ∷ rs) = either ((r.low ≤ c) × (c ≤ r.high)) (IsInRanges c rs) (grind arith) (in_ranges c rs)

module _ (plan : Parts) where
  -- the first tree of the symbol over the span, no higher than b, is found, or there is none
  abbrev pub FoundTree : ℕ → Sym → ℕ → ℕ → Type 0
  FoundTree b x i j = Found FlatTree (TreeWithin plan b x i j) (λ d e. FlatBefore plan.rules d e j)

  set_matches : (ranges : List CharRange) (i j : ℕ) → Answered (TerminalMatches plan.text (terminal.Set ranges) i j)
  set_matches ranges i j = by_text (take 1 (drop i plan.text)) refl
    where
      by_text : (xs : List ℕ) → take 1 (drop i plan.text) ≡ xs → Answered (TerminalMatches plan.text (terminal.Set ranges) i j)
      by_text [] e = inr (λ h. absurd (cc (sym e ∙ h.2.2)))
      by_text (c ∷ xs) e = by_one (both (IsInRanges c ranges) (StandsAt plan.text (c ∷ []) i j) (in_ranges c ranges) (stands plan.text (c ∷ []) i j))
        where
          by_one : Answered (IsInRanges c ranges × StandsAt plan.text (c ∷ []) i j) → Answered (TerminalMatches plan.text (terminal.Set ranges) i j)
          by_one (inl h) = inl (c, h.0, h.1)
          by_one (inr h) = inr (λ k. let q : k.0 ≡ c = cc (sym e ∙ k.2.2) in
              h (subst (λ z. IsInRanges z ranges) q k.1, subst (λ z. StandsAt plan.text (z ∷ []) i j) q k.2))

  terminal_matches : (t : Terminal) (i j : ℕ) → Answered (TerminalMatches plan.text t i j)
  terminal_matches (terminal.Lit cs) i j = stands plan.text cs i j
  terminal_matches (terminal.Set ranges) i j = set_matches ranges i j

  pub is_terminal : (t : ℕ) (shown : Bool) (i j : ℕ) → Answered (IsTerminal plan (sy.Term t shown) i j)
  is_terminal t shown i j = by_number (slice_get plan.rules.terminals t) refl
    where
      by_number : (x : Option Terminal) → slice_get plan.rules.terminals t ≡ x → Answered (IsTerminal plan (sy.Term t shown) i j)
      by_number None e = inr (λ h. let q : h.0 ≡ t = cc h.3 in absurd (cc (q, e, h.4)))
      by_number (Some u) e = by_match (terminal_matches u i j)
        where
          by_match : Answered (TerminalMatches plan.text u i j) → Answered (IsTerminal plan (sy.Term t shown) i j)
          by_match (inl h) = inl (t, shown, u, refl, e, h)
          by_match (inr n) = inr (λ h. let q : h.0 ≡ t = cc h.3 in let r : h.2 ≡ u = cc (q, e, h.4) in n (subst (λ z. TerminalMatches plan.text z i j) r h.5))

  pub found_terminal : (b t : ℕ) (shown : Bool) (i j : ℕ) → Answered (IsTerminal plan (sy.Term t shown) i j) → FoundTree b (sy.Term t shown) i j
  found_terminal b t shown i j (inl h) = inl (flat_text i j, record { holds = ((refl, refl, h), omega arith); before = others })
    where
      others : (z : FlatTree) → TreeWithin plan b (sy.Term t shown) i j z → (z ≡ flat_text i j) ⊎ FlatBefore plan.rules (flat_text i j) z j
      others (flat_text x y) h = inl (cc (h.0.0, h.0.1))
      others flat_insertion h = absurd (cc h.0.1)
      others (flat_node r a ds) h = absurd (cc h.0.1)
  found_terminal b t shown i j (inr n) = inr none
    where
      none : (z : FlatTree) → TreeWithin plan b (sy.Term t shown) i j z → ⊥
      none (flat_text x y) h = n h.0.2
      none flat_insertion h = cc h.0.1
      none (flat_node r a ds) h = cc h.0.1

  pub found_insertion : (b n i j : ℕ) → Answered (i ≡ j) → FoundTree b (sy.Insert n) i j
  found_insertion b n i j (inl e) = inl (flat_insertion, record { holds = ((n, refl, e), omega arith); before = others })
    where
      others : (z : FlatTree) → TreeWithin plan b (sy.Insert n) i j z → (z ≡ flat_insertion) ⊎ FlatBefore plan.rules flat_insertion z j
      others (flat_text x y) h = absurd (cc h.0.2.3)
      others flat_insertion h = inl refl
      others (flat_node r a ds) h = absurd (cc h.0.1)
  found_insertion b n i j (inr e) = inr none
    where
      none : (z : FlatTree) → TreeWithin plan b (sy.Insert n) i j z → ⊥
      none (flat_text x y) h = absurd (cc h.0.2.3)
      none flat_insertion h = e h.0.2
      none (flat_node r a ds) h = absurd (cc h.0.1)
