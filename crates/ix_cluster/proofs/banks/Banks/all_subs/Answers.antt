use Rattle.std.proofs.Common.{◌≡◌, ◌∙◌, ap, arith}
use Rattle.std.specs.List.{filter_map}
use Rattle.std.proofs.lemmas.Grind.{common_steps}
use Rattle.std.proofs.lemmas.List.Concat.{flat_map-append}
use Rattle.std.proofs.lemmas.List.Elements.{filter_map-append}
use Rattle.ix_cluster.specs.Banks.{recorded_sub}
use Rattle.ix_cluster.proofs.ButClaims.{subs_but_claims}
use Rattle.ix_cluster.proofs.banks.Banks.all_subs.Goals as goal

pub loop-bank-preserved : goal.loop-bank-preserved
loop-bank-preserved c =
    let same : filter_map recorded_sub c.facts_but_claims.result.now ≡ filter_map recorded_sub c.bank-item.result.log = ap (filter_map recorded_sub) c.facts_but_claims.ensures ∙ subs_but_claims c.bank-item.result.log in
    grind (arith, common_steps, same, filter_map-append, flat_map-append)
