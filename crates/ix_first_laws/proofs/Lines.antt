-- Alternatives by their numbers.
use Rattle.std.proofs.Common.{◌≡◌, refl, ap, sym, subst, ◌∙◌, ◌⊎◌, ◌<◌, ◌≤◌, ℕ, List, [], length, arith, slice_get, Option, Some, None}
use Rattle.std.specs.Prelude.{unwrap_or, option_map}
use Rattle.std.proofs.lemmas.Option.{slice_get_within, slice_get_past}
use mathlib.Core.Logic.{inl, inr}
use Rattle.ix_model.specs.declared.grammar.Mark.{Mark}
use Rattle.ix_model.specs.declared.rules.Kind.TheVariants as kind
use Rattle.ix_model.specs.declared.rules.Sym.{Sym}
use Rattle.ix_model.specs.declared.rules.Sym.TheVariants as sy
use Rattle.ix_model.specs.declared.rules.Line.{Line}
use Rattle.ix_model.specs.declared.rules.Flat.{Flat}
use Rattle.ix_model.specs.declared.rules.Rules.{Rules}
use Rattle.ix_model.specs.Expansion.Parts.{Parts}
use Rattle.ix_model.specs.Expansion.Numbered.{kind_at, lines_at, syms_at}
use Rattle.ix_model.specs.Expansion.FlatDerives.{IsLine}
use Rattle.ix_model.proofs.Readers.{get_within, lines_is, syms_is}
use Rattle.ix_first_laws.specs.Nested.{MayLead, IsNested}

-- past the last rule there is no alternative
pub past_rules : (rules : Rules) (r : ℕ) → length rules.flats ≤ r → length (lines_at rules r) ≡ 0
past_rules rules r h = rw (slice_get_past rules.flats r h) refl

-- past the last alternative there is no symbol
pub past_lines : (rules : Rules) (r a : ℕ) → length (lines_at rules r) ≤ a → syms_at rules r a ≡ []
past_lines rules r a h = rw (slice_get_past (lines_at rules r) a h) refl

module _ (plan : Parts) where
  -- the symbols of the alternative are those at its numbers
  pub line_syms : (r a : ℕ) (syms : List Sym) → IsLine plan r a syms → syms_at plan.rules r a ≡ syms
  line_syms r a syms (flat, line, e, f, g) = syms_is plan.rules r a flat line e f ∙ g

  pub line_within : (r a : ℕ) (syms : List Sym) → IsLine plan r a syms → a < length (lines_at plan.rules r)
  line_within r a syms (flat, line, e, f, g) = omega (arith, slice_get_within flat.lines a line f, ap (λ (xs : List Line). length xs) (lines_is plan.rules r flat e))

  -- at each number of an alternative there is one
  pub line_is : (r a : ℕ) → a < length (lines_at plan.rules r) → IsLine plan r a (syms_at plan.rules r a)
  line_is r a h = by_rule (slice_get plan.rules.flats r) refl
    where
      none : (x : Option Flat) → x ≡ None → a < length (unwrap_or (option_map (λ (flat : Flat). flat.lines) x) []) → ⊥
      none x e l = omega (arith, subst (λ y. a < length (unwrap_or (option_map (λ (flat : Flat). flat.lines) y) [])) e l)

      by_rule : (x : Option Flat) → slice_get plan.rules.flats r ≡ x → IsLine plan r a (syms_at plan.rules r a)
      by_rule None e = absurd (none _ e h)
      by_rule (Some flat) e =
          let l = get_within flat.lines a (omega (arith, h, ap (λ (xs : List Line). length xs) (lines_is plan.rules r flat e))) in
          (flat, l.0, e, l.1, sym (syms_is plan.rules r a flat l.0 e l.1))

  -- each number has an alternative, or none
  pub line_at : (r a : ℕ) → ((syms : List Sym) × IsLine plan r a syms) ⊎ ((syms : List Sym) → IsLine plan r a syms → ⊥)
  line_at r a = by_number (grind arith)
    where
      by_number : (a < length (lines_at plan.rules r)) ⊎ (length (lines_at plan.rules r) ≤ a) → ((syms : List Sym) × IsLine plan r a syms) ⊎ ((syms : List Sym) → IsLine plan r a syms → ⊥)
      by_number (inl h) = inl (syms_at plan.rules r a, line_is r a h)
      by_number (inr h) = inr (λ syms l. omega (arith, h, line_within r a syms l))

  -- where a symbol of an alternative may lead
  pub leads : IsNested plan.rules → (r a n q : ℕ) (syms : List Sym) (mark : Option Mark) → IsLine plan r a syms → slice_get syms n ≡ Some (sy.Rule q mark) → MayLead plan.rules r a n q
  leads nested r a n q syms mark l e = nested.below r a n q mark (ap (λ (xs : List Sym). slice_get xs n) (line_syms r a syms l) ∙ e)

  -- a list has no third alternative
  pub one_of_two : IsNested plan.rules → (r a : ℕ) (syms : List Sym) → kind_at plan.rules r ≡ kind.List → IsLine plan r a syms → a < 2
  one_of_two nested r a syms k l = omega (arith, nested.two r k, line_within r a syms l)
