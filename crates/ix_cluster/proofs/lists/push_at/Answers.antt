use Rattle.std.proofs.Common.{◌∙◌, ◌++◌, ◌∷◌, [], sym, ap}
use Rattle.std.specs.declared.vec.Vec.{Vec}
use Rattle.std.specs.Option.{option_map_or}
use Rattle.ix_cluster.specs.declared.cluster.Cluster.{Cluster}
use Rattle.ix_cluster.proofs.ListLemmas.{PushesAt-at}
use Rattle.ix_cluster.proofs.lists.push_at.Goals as goal

pub returns : goal.returns
returns g c = λ d is.
    let same = ap (λ o. option_map_or (λ (z : Cluster × Vec _ _). z.1.items) o []) (sym c.pair_mut-list.ensures.value ∙ is.at) in
    PushesAt-at c.args.map.now c.pair_mut-list.ensures.unique c.args.place d is.list is.at c.push_reserved.new.self c.args.item (c.push_reserved.ensures.items ∙ ap (λ l. l ++ c.args.item ∷ []) same)
