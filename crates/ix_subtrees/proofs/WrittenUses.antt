-- What useful subtrees say of the derivations under the written grammar.
use Rattle.std.proofs.Common.{sym, ap, ◌∙◌, None}
use Rattle.ix_model.specs.declared.grammar.Grammar.{Grammar}
use Rattle.ix_model.specs.declared.rules.Sym.TheVariants as sy
use Rattle.ix_model.specs.Expansion.Parts.{Parts}
use Rattle.ix_model.specs.Expansion.Planned.{IsPlanned, IsPlanOf}
use Rattle.ix_model.specs.Derivations.Trees.{Tree}
use Rattle.ix_model.specs.Derivations.Derives.{IsDerivation, Ambiguous}
use Rattle.ix_model.specs.Expansion.Lift.{lift}
use Rattle.ix_model.specs.Expansion.Lower.{lower}
use Rattle.ix_closure_laws.specs.TwoWays.{HasTwoWays}
use Rattle.ix_closure_laws.specs.UsefulLaws.{HasUseful}
use Rattle.ix_expansion_laws.proofs.Lifting.{lift_derives}
use Rattle.ix_model.proofs.Readers.{get_within}
use Rattle.ix_expansion_laws.proofs.LowerOfLift.{lower_lift}
use Rattle.ix_expansion_laws.proofs.Lowering.{lower_derives}
use Rattle.ix_expansion_laws.proofs.LiftOfLower.{lift_lower}
use Rattle.ix_closure_laws.proofs.Frames.{tree_root, root_useful, useful_tree}
use Rattle.ix_closure_laws.proofs.TwoTrees.{ambiguous_ways, ways_ambiguous}

module _ (g : Grammar) (plan : Parts) (p : IsPlanOf g plan) (planned : IsPlanned plan) where
  pub derived_useful : (d : Tree) → IsDerivation g plan.text d → HasUseful plan
  derived_useful d h = root_useful plan planned (tree_root plan planned (lower plan.rules d (sy.Rule 0 None), lower_derives g plan.rules plan.slots plan.text p.text p.expanded p.unique d h))

  pub useful_derived : HasUseful plan → (d : Tree) × IsDerivation g plan.text d
  useful_derived h =
      let rule = get_within g.rules 0 p.first in
      let t = useful_tree plan planned h in
      (lift plan.rules t.0, lift_derives g plan.rules plan.slots plan.text p.text p.expanded rule.0 rule.1 t.0 t.1)

  pub ambiguous_two_ways : Ambiguous g plan.text → HasTwoWays plan
  ambiguous_two_ways h =
      let back = lift_lower g plan.rules plan.text p.expanded p.unique in
      let derives = lower_derives g plan.rules plan.slots plan.text p.text p.expanded p.unique in
      ambiguous_ways plan planned (
        lower plan.rules h.0 (sy.Rule 0 None),
        lower plan.rules h.1 (sy.Rule 0 None),
        derives h.0 h.2,
        derives h.1 h.3,
        λ e. h.4 (sym (back h.0 h.2) ∙ ap (lift plan.rules) e ∙ back h.1 h.3),
      )

  pub two_ways_ambiguous : HasTwoWays plan → Ambiguous g plan.text
  two_ways_ambiguous h =
      let t = ways_ambiguous plan planned h in
      let rule = get_within g.rules 0 p.first in
      let back = lower_lift g plan.rules plan.slots plan.text p.text p.expanded rule.0 rule.1 in
      let derives = lift_derives g plan.rules plan.slots plan.text p.text p.expanded rule.0 rule.1 in (
        lift plan.rules t.0,
        lift plan.rules t.1,
        derives t.0 t.2,
        derives t.1 t.3,
        λ e. t.4 (sym (back t.0 t.2) ∙ ap (λ d. lower plan.rules d (sy.Rule 0 None)) e ∙ back t.1 t.3),
      )
