-- A tree over the numbered rules is as high and as wide as the written tree that it stands for.
use Rattle.std.proofs.Common.{◌≡◌, refl, ap, ◌∙◌, ℕ, List, arith}
use Rattle.ix_model.specs.declared.rules.Kind.{Kind}
use Rattle.ix_model.specs.declared.rules.Kind.TheVariants as kind
use Rattle.ix_model.specs.declared.rules.Sym.{Sym}
use Rattle.ix_model.specs.Derivations.Trees.{Trees, width, widths}
use Rattle.ix_model.specs.Derivations.Heights.{height, heights}
use Rattle.ix_model.specs.Expansion.Parts.{Parts}
use Rattle.ix_model.specs.Expansion.Numbered.{kind_at}
use Rattle.ix_model.specs.Expansion.FlatTrees.{FlatTree, flat_text, flat_insertion, flat_node, FlatTrees, no_flat, flats_and, flat_width, flat_widths}
use Rattle.ix_model.specs.Expansion.FlatDerives.{FlatDerives, FlatDerivesFirst}
use Rattle.ix_model.specs.Expansion.FlatHeights.{raised, flat_height, flat_heights}
use Rattle.ix_model.specs.Expansion.Lift.{lift, lift_all, lifted}
use Rattle.ix_first_laws.proofs.Fits.{OptionFits, StarFits, ListFits, held, not_there, no_items, items, only_item, next_item, item_after, Fits, AllFit}

-- the tree of an alternative, by the trees in it
record Measures (k : Kind) (r a : ℕ) (ts : Trees) : Type 0 where
  pub high : height (lifted k r a ts) ≡ raised k (heights ts)
  pub wide : width (lifted k r a ts) ≡ widths ts

option_measures : (r a : ℕ) (ts : Trees) → OptionFits a ts → Measures kind.Opt r a ts
option_measures r a ts (held d) = record { high = omega arith; wide = omega arith }
option_measures r a ts not_there = record { high = refl; wide = refl }

star_measures : (r a : ℕ) (ts : Trees) → StarFits a ts → Measures kind.Star r a ts
star_measures r a ts no_items = record { high = refl; wide = refl }
star_measures r a ts (items rs) = record { high = omega arith; wide = omega arith }

list_measures : (r a : ℕ) (ts : Trees) → ListFits a ts → Measures kind.List r a ts
list_measures r a ts (only_item d) = record { high = omega arith; wide = omega arith }
list_measures r a ts (next_item rs d) = record { high = omega arith; wide = omega arith }
list_measures r a ts (item_after rs e d) = record { high = omega arith; wide = omega arith }

measures : (k : Kind) (r a : ℕ) (ts : Trees) → Fits k a ts → Measures k r a ts
measures kind.Named r a ts f = record { high = refl; wide = refl }
measures kind.Group r a ts f = record { high = refl; wide = refl }
measures kind.Opt r a ts f = option_measures r a ts f
measures kind.Star r a ts f = star_measures r a ts f
measures kind.List r a ts f = list_measures r a ts f

module _ (plan : Parts) (fits : AllFit plan) where
  mutual
    pub lift_measures : (d : FlatTree) (x : Sym) (i j : ℕ) → FlatDerives plan d x i j → (height (lift plan.rules d) ≡ flat_height plan.rules d) × (width (lift plan.rules d) ≡ flat_width d)
    lift_measures (flat_text a b) x i j h = (refl, refl)
    lift_measures flat_insertion x i j h = (refl, refl)
    lift_measures (flat_node r a ds) x i j h =
        let m = measures (kind_at plan.rules r) r a (lift_all plan.rules ds) (fits r a ds x i j h) in
        let z = lifts_measure ds h.2 i j h.5 in
        (m.high ∙ ap (raised (kind_at plan.rules r)) z.0, m.wide ∙ z.1)

    pub lifts_measure : (ds : FlatTrees) (syms : List Sym) (i j : ℕ) → FlatDerivesFirst plan ds syms i j → (heights (lift_all plan.rules ds) ≡ flat_heights plan.rules ds) × (widths (lift_all plan.rules ds) ≡ flat_widths ds)
    lifts_measure no_flat syms i j h = (refl, refl)
    lifts_measure (flats_and ds d) syms i j h =
        let a = lifts_measure ds syms i h.0 h.2 in
        let b = lift_measures d h.1 h.0 j h.4 in
        (omega (arith, a.0, b.0), omega (arith, a.1, b.1))
