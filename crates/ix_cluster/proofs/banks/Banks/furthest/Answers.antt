use Rattle.std.proofs.Common.{◌≡◌, ◌∙◌, fold, ap, arith}
use Rattle.std.proofs.lemmas.Grind.{common_steps}
use Rattle.ix_cluster.specs.Banks.{facts_of, later_of}
use Rattle.ix_cluster.proofs.Furthest.{is_furthest}
use Rattle.ix_cluster.proofs.ButClaims.{later_but_claims}
use Rattle.ix_cluster.proofs.banks.Banks.furthest.Goals as goal

pub loop-bank-preserved : goal.loop-bank-preserved
loop-bank-preserved c =
    let later : c.later-furthest.result ≡ fold later_of c.loop-bank.furthest c.bank-item.result.log =
    c.later-furthest.ensures ∙ ap (fold later_of c.loop-bank.furthest) c.facts_but_claims.ensures ∙ later_but_claims c.bank-item.result.log c.loop-bank.furthest in
    grind (arith, common_steps, later)

pub returns-clause-greatest : goal.returns-clause-greatest
returns-clause-greatest c =
    let value : c.loop-bank.furthest ≡ fold later_of 0 (facts_of c.args.self.now.banks.items) = grind (arith, common_steps) in
    is_furthest (facts_of c.args.self.now.banks.items) c.loop-bank.furthest value
