use Rattle.std.proofs.Common.{◌∙◌, ap, sym}
use Rattle.std.proofs.lemmas.Option.{get_or_from_slice_get}
use Rattle.ix_cluster.specs.Facts.{has}
use Rattle.ix_cluster.specs.declared.fact.Fact.TheVariants.{Desc, Claim}
use Rattle.ix_cluster.specs.Seen.{Log}
use Rattle.ix_cluster.proofs.Marks.{found-at}
use Rattle.ix_cluster.proofs.log.Log.is_claimed.Goals as goal

pub returns-in-Some : goal.returns-in-Some
returns-in-Some c =
    let at = found-at c.self.inside.facts.keys c.in-Some.number (Desc c.args.slot c.args.left c.args.pos) (sym c.get_index_of.ensures.index ∙ c.in-Some.is) in
    c.index.ensures ∙ get_or_from_slice_get c.self.inside.marks.items c.in-Some.number _ c.index.result.now (c.self.invariant.are_marked.marked c.in-Some.number c.args.slot c.args.left c.args.pos at) ∙
    ap (λ (v : Log). has v.facts (Claim c.args.slot c.args.left c.args.pos)) c.self.view_is
