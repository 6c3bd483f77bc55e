-- What holds of the closures of plans of literals.
use Rattle.std.proofs.Common.{◌≡◌, refl, sym, subst, ◌∙◌, ◌+◌, ◌≤◌, ℕ, List, length, Some, arith, slice_get}
use Rattle.ix_model.specs.declared.rules.Sym.{Sym}
use Rattle.ix_model.specs.declared.rules.Sym.TheVariants as sy
use Rattle.ix_model.specs.declared.rules.Terminal.{Terminal}
use Rattle.ix_model.specs.declared.rules.Terminal.TheVariants as terminal
use Rattle.ix_model.specs.Expansion.Parts.{Parts}
use Rattle.ix_model.specs.Expansion.Planned.{IsPlanned}
use Rattle.ix_model.specs.Expansion.Numbered.{syms_at}
use Rattle.ix_model.specs.Expansion.Slots.{IsSlot}
use Rattle.ix_model.specs.Matching.Terminals.{StandsAt}
use Rattle.ix_model.specs.Expansion.FlatTrees.{FlatTrees, no_flat, flats_and, flat_count}
use Rattle.ix_model.specs.Expansion.FlatDerives.{IsTerminal, TerminalMatches}
use Rattle.ix_model.specs.Expansion.SlotPlaces.{HasNext}
use Rattle.ix_model.specs.Closure.Closed.{Called, start, by_edge, Desc, waiting, Part, empty, scanned, inserted, joined}
use Rattle.ix_closure_laws.specs.ClosedLaws.{Covers, IsLastFrom}
use Rattle.ix_model.specs.Closure.Useful.{sub_at, Useful}
use Rattle.ix_closure_laws.specs.TwoWays.{HasTwoPivots}
use Rattle.ix_model.proofs.SlotPlaces.{same_slot}
use Rattle.ix_model.proofs.SlotReaders.{next_sym}
use Rattle.ix_closure_laws.proofs.ClosedTrees.{desc_trees, part_trees}
use Rattle.ix_closure_laws.proofs.Reaching.{reached_part, useful_reached}

-- facts of equal numbers
pub by_two : (R : ℕ → ℕ → Type 0) (a b c d : ℕ) → a ≡ c → b ≡ d → R c d → R a b
by_two R a b c d e f h = subst (λ z. R z b) (sym e) (subst (R c) (sym f) h)

pub by_three : (R : ℕ → ℕ → ℕ → Type 0) (a b c d e f : ℕ) → a ≡ d → b ≡ e → c ≡ f → R d e f → R a b c
by_three R a b c d e f g h i r = subst (λ z. R z b c) (sym g) (by_two (R d) b c e f h i r)

pub by_four : (R : ℕ → ℕ → ℕ → ℕ → Type 0) (a b c d e f g h : ℕ) → a ≡ e → b ≡ f → c ≡ g → d ≡ h → R e f g h → R a b c d
by_four R a b c d e f g h i j k l r = subst (λ z. R z b c d) (sym i) (by_three (R e) b c d f g h j k l r)

module _ (plan : Parts) where
  -- a pivot is at most where its subtree ends
  pub pivot_within : (s l k r : ℕ) → Part plan s l k r → k ≤ r
  pivot_within s l k r h = go (part_trees plan s l k r h)
    where
      go : (ds : FlatTrees) × Covers plan s ds l r × IsLastFrom plan ds s l k r → k ≤ r
      go (no_flat, c, t) = omega (arith, c.5, t.0)
      go (flats_and ds d, c, t) = omega (arith, t)

  pub useful_part : IsPlanned plan → (s l k r : ℕ) → Useful plan (sub_at s l k r) → Part plan s l k r
  useful_part planned s l k r h = reached_part plan planned s l k r (useful_reached plan planned (sub_at s l k r) h)

  -- a slot with its dot at the beginning has passed no character
  pub passed_none : (s l p r a : ℕ) → IsSlot plan s r a 0 → Desc plan s l p → l ≡ p
  passed_none s l p r a at h = go (desc_trees plan s l p h)
    where
      go : (ds : FlatTrees) × Covers plan s ds l p → l ≡ p
      go (no_flat, c) = c.5
      go (flats_and ds d, c) = absurd (omega (arith, (same_slot plan s c.0 c.1 (flat_count ds + 1) r a 0 c.3 at).2))

  -- the symbol is a literal
  abbrev pub IsLiteral : Sym → Type 0
  IsLiteral (sy.Term n shown) = Unit {0}
  IsLiteral _ = ⊥

  -- each symbol is a literal
  abbrev AreLiterals : Type 0
  AreLiterals = (r a n : ℕ) (x : Sym) → slice_get (syms_at plan.rules r a) n ≡ Some x → IsLiteral x

  -- each terminal that matches begins with the text
  abbrev MatchAtStart : Type 0
  MatchAtStart = (x : Sym) (i j : ℕ) → IsTerminal plan x i j → i ≡ 0

  pub match_one : length plan.text ≡ 1 → (term : Terminal) (cs : List ℕ) (i j : ℕ) → length cs ≡ 1 → term ≡ terminal.Lit cs → TerminalMatches plan.text term i j → i ≡ 0
  match_one n term cs i j m e h =
      let s : StandsAt plan.text cs i j = subst (λ (z : Terminal). TerminalMatches plan.text z i j) e h in
      omega (arith, s.0, s.1, n, m)

  next_literal : AreLiterals → (s after : ℕ) (x : Sym) → HasNext plan s after x → IsLiteral x
  next_literal all s after x h = all h.0 h.1 h.2 x (next_sym plan s after x h)

  called_at_start : AreLiterals → (r p : ℕ) → Called plan r p → p ≡ 0
  called_at_start all r p start = refl
  called_at_start all r p (by_edge rule at slot left (waiting s l k after q mark d h)) = absurd (next_literal all s after (sy.Rule q mark) h)

  pivot_at_start : AreLiterals → MatchAtStart → (s l k r : ℕ) → Part plan s l k r → k ≡ 0
  pivot_at_start all match s l k r (empty rule at slot c f g) = called_at_start all rule at c
  pivot_at_start all match s l k r (scanned slot left pivot after right x d h t) = match x pivot right t
  pivot_at_start all match s l k r (inserted slot left pivot after n d h) = absurd (next_literal all slot after (sy.Insert n) h)
  pivot_at_start all match s l k r (joined rule pivot slot left right after mark e f h) = absurd (next_literal all slot after (sy.Rule rule mark) h)

  pub one_pivot : IsPlanned plan → AreLiterals → MatchAtStart → HasTwoPivots plan → ⊥
  one_pivot planned all match h = h.5 (zero_is h.3 h.6 ∙ sym (zero_is h.4 h.7))
    where
      zero_is : (k : ℕ) → Useful plan (sub_at h.0 h.1 k h.2) → k ≡ 0
      zero_is k u = pivot_at_start all match h.0 h.1 k h.2 (useful_part planned h.0 h.1 k h.2 u)
