use Rattle.std.proofs.Common.{◌≡◌, List, OnOk, ap, sym, subst, ◌∙◌}
use Rattle.std.specs.List.{flat_map}
use Rattle.ix_model.specs.declared.grammar.Factor.{Factor}
use Rattle.ix_model.specs.Grammars.Factors.{factors_of_factor, factors_of_term, factors_of_alt}
use Rattle.ix_errors.specs.Mentions.{AddsFactors}
use Rattle.ix_conformance_laws.proofs.FactorLists.{of_group, of_alt}
use Rattle.ix_errors.proofs.Adding.{one_more}
use Rattle.ix_errors.proofs.mentions.+mentions.Goals as goal

pub add_alts-loop-alt-preserved : goal.add_alts-loop-alt-preserved
add_alts-loop-alt-preserved t c =
    let alt = c.alt-item.result in
    let before = c.loop-alt.mentions.items in
    let after = c.add_terms.new.mentions.items in
    let of_terms : flat_map factors_of_term c.as_slice.result.now ≡ factors_of_alt alt = ap (flat_map factors_of_term) c.as_slice.ensures ∙ sym (of_alt alt) in
    one_more factors_of_alt c.args.mentions.now.items before after c.args.alts.now c.loop-alt.alt-index alt c.loop-alt-test.true c.alt-item.is c.loop-alt.invariant (subst (AddsFactors before after) of_terms c.in_ok-add_terms.ensures)

pub add_factor-returns-in-Group : goal.add_factor-returns-in-Group
add_factor-returns-in-Group t c =
    let of_alts : flat_map factors_of_alt c.as_slice-in-Group.result.now ≡ factors_of_factor c.args.factor.now =
    ap (flat_map factors_of_alt) c.as_slice-in-Group.ensures ∙ sym (of_group c.in-Group.alts) ∙ ap factors_of_factor (sym c.in-Group.is) in
    subst (λ (fs : List Factor). OnOk c.add_alts.result (AddsFactors c.args.mentions.now.items c.add_alts.new.mentions.items fs)) of_alts c.add_alts.ensures
