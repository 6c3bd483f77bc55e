use Rattle.std.proofs.Common.{[], ◌∷◌, true≢false, sym}
use Rattle.ix_cluster.specs.declared.fact.Fact.TheVariants.{Called, Edge, End}
use Rattle.ix_cluster.proofs.Members.{first_has, rest_has, has-Contains}
use Rattle.ix_cluster.proofs.laws.edges_call_their_clusters.Goals as goal

pub returns-clause-not_called : goal.returns-clause-not_called
returns-clause-not_called c = λ h.
    let there = rest_has (Called 0 0) (Edge 0 1 2 0 ∷ []) (Edge 0 1 2 0) (first_has (Edge 0 1 2 0) []) in
    true≢false (sym (has-Contains (Called 0 0 ∷ Edge 0 1 2 0 ∷ []) (Called 0 1) (h 0 1 2 0 there)))

pub returns-clause-without_call : goal.returns-clause-without_call
returns-clause-without_call c = λ h.
    let there = first_has (Edge 0 0 2 0) (End 0 0 1 ∷ End 0 1 4 ∷ []) in
    true≢false (sym (has-Contains (Edge 0 0 2 0 ∷ End 0 0 1 ∷ End 0 1 4 ∷ []) (Called 0 0) (h.called 0 0 2 0 there)))
