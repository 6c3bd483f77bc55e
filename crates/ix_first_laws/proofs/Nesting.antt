-- The numbered rules of a grammar are nested.
use Rattle.std.proofs.Common.{◌≡◌, refl, sym, ap, ◌∙◌, ◌⊎◌, ◌+◌, ◌≤◌, ◌<◌, ℕ, zero, suc, List, [], ◌∷◌, map, length, Option, Some, None, arith, slice_get}
use Rattle.std.specs.Prelude.{unwrap_or, option_map}
use Rattle.std.specs.List.{AllByRecursion}
use mathlib.Core.Logic.{inl, inr}
use Rattle.ix_model.specs.declared.grammar.Grammar.{Grammar}
use Rattle.ix_model.specs.declared.grammar.Mark.{Mark}
use Rattle.ix_model.specs.declared.rules.Kind.{Kind}
use Rattle.ix_model.specs.declared.rules.Kind.TheVariants as kind
use Rattle.ix_model.specs.declared.rules.Sym.{Sym}
use Rattle.ix_model.specs.declared.rules.Sym.TheVariants as sy
use Rattle.ix_model.specs.declared.rules.Line.{Line}
use Rattle.ix_model.specs.declared.rules.Rules.{Rules}
use Rattle.ix_model.specs.Expansion.Numbered.{kind_at, lines_at, syms_at}
use Rattle.ix_model.specs.Expansion.Expanded.{line, next_syms, HasFlat, Expanded}
use Rattle.ix_expansion_laws.proofs.Lifting.{kind_is}
use Rattle.ix_expansion_laws.proofs.Covering.{names_first, only_named, at_all}
use Rattle.ix_first_laws.specs.Nested.{MayLead, IsNested}
use Rattle.ix_first_laws.proofs.Lines.{past_rules, past_lines}
use Rattle.ix_first_laws.proofs.HelperShapes.{From, SeparatorFrom, HelperShape, of_group, of_option, of_star, of_list, shape_at}

-- the symbols of alternative a of these
abbrev syms_in : List (List Sym) → ℕ → List Sym
syms_in lines a = unwrap_or (option_map (λ (l : Line). l.syms) (slice_get (map line lines) a)) []

syms_of : (rules : Rules) (r a : ℕ) (k : Kind) (lines : List (List Sym)) → HasFlat rules r k lines → syms_at rules r a ≡ syms_in lines a
syms_of rules r a k lines h = rw h refl

in_lines : (P : Sym → Type 0) (lines : List (List Sym)) (a n : ℕ) (x : Sym) → AllByRecursion (AllByRecursion P) lines → slice_get (syms_in lines a) n ≡ Some x → P x
in_lines P [] a n x h e = absurd (cc e)
in_lines P (syms ∷ lines) zero n x h e = at_all P syms n x h.0 e
in_lines P (syms ∷ lines) (suc a) n x h e = in_lines P lines a n x h.1 e

module _ (g : Grammar) (rules : Rules) (e : Expanded g rules) where
  -- to a rule of the grammar, or to one after r
  leads_from : (r a n q : ℕ) (m : Option Mark) → From g rules (r + 1) (sy.Rule q m) → MayLead rules r a n q
  leads_from r a n q m (inl h) = inr (inl ((only_named g rules e q (omega (arith, h, names_first g rules e))).1 h))
  leads_from r a n q m (inr h) = inr (inr (inl (omega (arith, h))))

  list_leads : (r a n q : ℕ) (m : Option Mark) (x : Sym) (s : Option Sym) → kind_at rules r ≡ kind.List → From g rules (r + 1) x → SeparatorFrom g rules (r + 1) s →
      slice_get (syms_in ((x ∷ []) ∷ next_syms r x s ∷ []) a) n ≡ Some (sy.Rule q m) → MayLead rules r a n q
  list_leads r zero n q m x s k h l o = leads_from r zero n q m (at_all (From g rules (r + 1)) (x ∷ []) n (sy.Rule q m) (h, tt) o)
  list_leads r (suc zero) zero q m x None k h l o = let p : q ≡ r = cc o in inr (inr (inr (p, k, refl, refl)))
  list_leads r (suc zero) zero q m x (Some y) k h l o = let p : q ≡ r = cc o in inr (inr (inr (p, k, refl, refl)))
  list_leads r (suc zero) (suc n) q m x None k h l o = leads_from r 1 (suc n) q m (at_all (From g rules (r + 1)) (x ∷ []) n (sy.Rule q m) (h, tt) o)
  list_leads r (suc zero) (suc n) q m x (Some y) k h l o = leads_from r 1 (suc n) q m (at_all (From g rules (r + 1)) (y ∷ x ∷ []) n (sy.Rule q m) (l, (h, tt)) o)
  list_leads r (suc (suc a)) n q m x s k h l o = absurd (cc o)

  star_leads : (r p a n q : ℕ) (m : Option Mark) → r < p → slice_get (syms_in ([] ∷ (sy.Rule p None ∷ []) ∷ []) a) n ≡ Some (sy.Rule q m) → MayLead rules r a n q
  star_leads r p a n q m l o = leads_from r a n q m (in_lines (From g rules (r + 1)) ([] ∷ (sy.Rule p None ∷ []) ∷ []) a n (sy.Rule q m) (tt, ((inr (omega (arith, l)), tt), tt)) o)

  helper_leads : (r : ℕ) → HelperShape g rules r → (a n q : ℕ) (m : Option Mark) → slice_get (syms_at rules r a) n ≡ Some (sy.Rule q m) → MayLead rules r a n q
  helper_leads r (of_group _ lines f h) a n q m o =
      leads_from r a n q m (in_lines (From g rules (r + 1)) lines a n (sy.Rule q m) h (ap (λ (xs : List Sym). slice_get xs n) (sym (syms_of rules r a kind.Group lines f)) ∙ o))
  helper_leads r (of_option _ x f h) a n q m o =
      leads_from r a n q m (in_lines (From g rules (r + 1)) ((x ∷ []) ∷ [] ∷ []) a n (sy.Rule q m) ((h, tt), (tt, tt)) (ap (λ (xs : List Sym). slice_get xs n) (sym (syms_of rules r a kind.Opt ((x ∷ []) ∷ [] ∷ []) f)) ∙ o))
  helper_leads r (of_star _ p f l k) a n q m o = star_leads r p a n q m l (ap (λ (xs : List Sym). slice_get xs n) (sym (syms_of rules r a kind.Star ([] ∷ (sy.Rule p None ∷ []) ∷ []) f)) ∙ o)
  helper_leads r (of_list _ x s f h l) a n q m o =
      let lines : List (List Sym) = (x ∷ []) ∷ next_syms r x s ∷ [] in
      list_leads r a n q m x s (kind_is g rules r kind.List lines f) h l (ap (λ (xs : List Sym). slice_get xs n) (sym (syms_of rules r a kind.List lines f)) ∙ o)

  helper_two : (r : ℕ) → HelperShape g rules r → kind_at rules r ≡ kind.List → length (lines_at rules r) ≤ 2
  helper_two r (of_group _ lines f h) k = absurd (cc (sym (kind_is g rules r kind.Group lines f) ∙ k))
  helper_two r (of_option _ x f h) k = rw f (omega arith)
  helper_two r (of_star _ p f l o) k = rw f (omega arith)
  helper_two r (of_list _ x s f h l) k = rw f (omega arith)

  pub expanded_nested : IsNested rules
  expanded_nested = record { below = below; two = two }
    where
      below : (r a n q : ℕ) (m : Option Mark) → slice_get (syms_at rules r a) n ≡ Some (sy.Rule q m) → MayLead rules r a n q
      below r a n q m o = by_place (grind arith) (grind arith)
        where
          by_place : (r < length g.rules) ⊎ (length g.rules ≤ r) → (r < length rules.flats) ⊎ (length rules.flats ≤ r) → MayLead rules r a n q
          by_place (inl h) k = inl ((only_named g rules e r (omega (arith, h, names_first g rules e))).1 h)
          by_place (inr h) (inl k) = helper_leads r (shape_at g rules e r h k) a n q m o
          by_place (inr h) (inr k) = absurd (cc (ap (λ (xs : List Sym). slice_get xs n) (past_lines rules r a (omega (arith, past_rules rules r k))), o))

      two : (r : ℕ) → kind_at rules r ≡ kind.List → length (lines_at rules r) ≤ 2
      two r k = by_place (grind arith) (grind arith)
        where
          by_place : (r < length g.rules) ⊎ (length g.rules ≤ r) → (r < length rules.flats) ⊎ (length rules.flats ≤ r) → length (lines_at rules r) ≤ 2
          by_place (inl h) l = absurd (cc (sym ((only_named g rules e r (omega (arith, h, names_first g rules e))).1 h) ∙ k))
          by_place (inr h) (inl l) = helper_two r (shape_at g rules e r h l) k
          by_place (inr h) (inr l) = omega (arith, past_rules rules r l)
