use Rattle.std.proofs.Common.{◌≡◌, ◌∙◌, ap, arith}
use Rattle.std.specs.List.{count_by}
use Rattle.std.proofs.lemmas.Grind.{common_steps}
use Rattle.ix_cluster.specs.Banks.{is_descriptor}
use Rattle.ix_cluster.proofs.ButClaims.{descriptors_but_claims}
use Rattle.ix_cluster.proofs.banks.Banks.descriptors.Goals as goal

pub loop-bank-preserved : goal.loop-bank-preserved
loop-bank-preserved c =
    let count : c.descriptor_count-count.result ≡ count_by is_descriptor c.bank-item.result.log =
    c.descriptor_count-count.ensures.count ∙ ap (count_by is_descriptor) c.facts_but_claims.ensures ∙ descriptors_but_claims c.bank-item.result.log in
    grind (arith, common_steps, count)
