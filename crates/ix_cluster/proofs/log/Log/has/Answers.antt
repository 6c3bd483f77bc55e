use Rattle.std.proofs.Common.{◌≡◌, ◌∙◌, true, ap}
use Rattle.ix_cluster.specs.Facts.{has}
use Rattle.ix_cluster.specs.LogPlaces.{is_no_claim}
use Rattle.ix_cluster.specs.Seen.{Log}
use Rattle.ix_cluster.proofs.ButClaims.{not_claim}
use Rattle.ix_cluster.proofs.FactLemmas.{any-has}
use Rattle.ix_cluster.proofs.Marks.{has-facts}
use Rattle.ix_cluster.proofs.log.Log.has.Goals as goal

pub returns-in_default : goal.returns-in_default
returns-in_default c =
    let plain : is_no_claim c.args.fact ≡ true = not_claim c.args.fact c.in_default.not-Claim in
    c.contains.ensures ∙ any-has c.self.inside.facts.keys c.args.fact ∙ has-facts c.self.inside.facts.keys c.self.inside.marks.items c.self.inside.places.items c.self.invariant.are_marked c.args.fact plain ∙ ap (λ (v : Log). has v.facts c.args.fact) c.self.view_is
