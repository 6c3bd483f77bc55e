-- The first derivation over the numbered rules of a grammar lifts to the first derivation of the written grammar, and the first
-- derivation of the written grammar is lowered to it.
use Rattle.std.proofs.Common.{◌≡◌, ◌≢◌, sym, ap, subst, ◌∙◌, length, None}
use Rattle.ix_model.specs.declared.grammar.Grammar.{Grammar}
use Rattle.ix_model.specs.declared.rules.Kind.TheVariants as kind
use Rattle.ix_model.specs.declared.rules.Sym.TheVariants as sy
use Rattle.ix_model.specs.Derivations.Trees.{Tree}
use Rattle.ix_model.specs.Derivations.Derives.{IsDerivation}
use Rattle.ix_model.specs.Derivations.Order.{Before, First}
use Rattle.ix_model.specs.Expansion.Parts.{Parts}
use Rattle.ix_model.specs.Expansion.Planned.{IsPlanOf}
use Rattle.ix_model.specs.Expansion.Numbered.{kind_at}
use Rattle.ix_model.specs.Expansion.FlatTrees.{FlatTree}
use Rattle.ix_model.specs.Expansion.FlatDerives.{IsFlatDerivation}
use Rattle.ix_model.specs.Expansion.FlatOrder.{FlatFirst}
use Rattle.ix_model.specs.Expansion.Lift.{lift}
use Rattle.ix_model.specs.Expansion.Lower.{lower}
use Rattle.ix_model.proofs.Readers.{get_within}
use Rattle.ix_tree_laws.proofs.Once.{first_is_one}
use Rattle.ix_expansion_laws.proofs.Covering.{names_first, only_named}
use Rattle.ix_expansion_laws.proofs.Lifting.{lift_derives}
use Rattle.ix_expansion_laws.proofs.Lowering.{lower_derives}
use Rattle.ix_expansion_laws.proofs.LiftOfLower.{lift_lower}
use Rattle.ix_expansion_laws.proofs.LowerOfLift.{lower_lift}
use Rattle.ix_first_laws.proofs.Fits.{all_fit}
use Rattle.ix_first_laws.proofs.FlatFirsts.{first_from}
use Rattle.ix_first_laws.proofs.LiftFirst.{order_lifts}
use Rattle.ix_first_laws.proofs.Nesting.{expanded_nested}
use Rattle.std.proofs.Common.{arith}

module _ (g : Grammar) (plan : Parts) (p : IsPlanOf g plan) where
  up : (e : FlatTree) → IsFlatDerivation plan e → IsDerivation g plan.text (lift plan.rules e)
  up e h = let rule = get_within g.rules 0 p.first in lift_derives g plan.rules plan.slots plan.text p.text p.expanded rule.0 rule.1 e h

  up_down : (e : FlatTree) → IsFlatDerivation plan e → lower plan.rules (lift plan.rules e) (sy.Rule 0 None) ≡ e
  up_down e h = let rule = get_within g.rules 0 p.first in lower_lift g plan.rules plan.slots plan.text p.text p.expanded rule.0 rule.1 e h

  down : (d : Tree) → IsDerivation g plan.text d → IsFlatDerivation plan (lower plan.rules d (sy.Rule 0 None))
  down d h = lower_derives g plan.rules plan.slots plan.text p.text p.expanded p.unique d h

  down_up : (d : Tree) → IsDerivation g plan.text d → lift plan.rules (lower plan.rules d (sy.Rule 0 None)) ≡ d
  down_up d h = lift_lower g plan.rules plan.text p.expanded p.unique d h

  pub first_lifts : (e : FlatTree) → FlatFirst plan e → First g plan.text (lift plan.rules e)
  first_lifts e h = (up e h.0, others)
    where
      others : (z : Tree) → IsDerivation g plan.text z → z ≢ lift plan.rules e → Before (lift plan.rules e) z (length plan.text)
      others z k n =
          let f : FlatTree = lower plan.rules z (sy.Rule 0 None) in
          let differs : f ≢ e = λ q. n (sym (down_up z k) ∙ ap (lift plan.rules) q) in
          subst (λ y. Before (lift plan.rules e) y (length plan.text)) (down_up z k)
          (order_lifts plan (all_fit g plan p.expanded) e f (sy.Rule 0 None) 0 (length plan.text) h.0 (down z k) (h.1 f (down z k) differs))

  pub root_named : kind_at plan.rules 0 ≡ kind.Named
  root_named = (only_named g plan.rules p.expanded 0 (omega (arith, p.first, names_first g plan.rules p.expanded))).1 p.first

  pub first_is_lowered : (d : Tree) → First g plan.text d → FlatFirst plan (lower plan.rules d (sy.Rule 0 None))
  first_is_lowered d h = subst (FlatFirst plan) same found.1
    where
      found : (e : FlatTree) × FlatFirst plan e
      found = first_from plan (expanded_nested g plan.rules p.expanded) root_named (lower plan.rules d (sy.Rule 0 None)) (down d h.0)

      same : found.0 ≡ lower plan.rules d (sy.Rule 0 None)
      same = sym (up_down found.0 found.1.0) ∙ ap (λ z. lower plan.rules z (sy.Rule 0 None)) (first_is_one g plan.text (lift plan.rules found.0) d (first_lifts found.0 found.1) h)
