use Rattle.std.proofs.Common.{◌≡◌, ◌<◌, ◌∙◌, Some, length, slice_get, slice_index_or, sym, ap, subst, arith}
use Rattle.ix_cluster.specs.declared.fact.Fact.TheVariants.{Called}
use Rattle.ix_cluster.specs.declared.log.Place.TheVariants.{Came, Claimed}
use Rattle.ix_cluster.specs.LogPlaces.{as_claim, log_of}
use Rattle.ix_cluster.specs.Seen.{Log}
use Rattle.ix_cluster.proofs.Marks.{read-number, read-fact}
use Rattle.ix_cluster.proofs.log.Log.at.Goals as goal

pub bounds-as_slice-number : goal.bounds-as_slice-number
bounds-as_slice-number c =
    let here : c.args.n < length (log_of c.self.inside.facts.keys c.self.inside.places.items) = omega (arith, c.requires, ap (λ (v : Log). length v.facts) c.self.view_is) in
    omega (arith, read-number c.self.inside.facts.keys c.self.inside.marks.items c.self.inside.places.items c.self.invariant.are_marked c.args.n (Came c.in-Came.number) (subst (λ z. z ≡ slice_index_or c.self.inside.places.items c.args.n z) c.in-Came.is c.index.ensures) here, ap length c.as_slice.ensures.keys)

pub bounds-as_slice-number-in-Claimed : goal.bounds-as_slice-number-in-Claimed
bounds-as_slice-number-in-Claimed c =
    let here : c.args.n < length (log_of c.self.inside.facts.keys c.self.inside.places.items) = omega (arith, c.requires, ap (λ (v : Log). length v.facts) c.self.view_is) in
    omega (arith, read-number c.self.inside.facts.keys c.self.inside.marks.items c.self.inside.places.items c.self.invariant.are_marked c.args.n (Claimed c.in-Claimed.number) (subst (λ z. z ≡ slice_index_or c.self.inside.places.items c.args.n z) c.in-Claimed.is c.index.ensures) here, ap length c.as_slice-in-Claimed.ensures.keys)

pub returns-in-Came : goal.returns-in-Came
returns-in-Came c =
    let here : c.args.n < length (log_of c.self.inside.facts.keys c.self.inside.places.items) = omega (arith, c.requires, ap (λ (v : Log). length v.facts) c.self.view_is) in
    ap (λ (v : Log). slice_get v.facts c.args.n) (sym c.self.view_is) ∙ read-fact c.self.inside.facts.keys c.self.inside.marks.items c.self.inside.places.items c.self.invariant.are_marked c.args.n (Came c.in-Came.number) (subst (λ z. z ≡ slice_index_or c.self.inside.places.items c.args.n z) c.in-Came.is c.index.ensures) here ∙
    ap (λ fs. Some (slice_index_or fs c.in-Came.number (Called 0 0))) (sym c.as_slice.ensures.keys)

pub returns-in-Claimed : goal.returns-in-Claimed
returns-in-Claimed c =
    let here : c.args.n < length (log_of c.self.inside.facts.keys c.self.inside.places.items) = omega (arith, c.requires, ap (λ (v : Log). length v.facts) c.self.view_is) in
    ap (λ (v : Log). slice_get v.facts c.args.n) (sym c.self.view_is) ∙ read-fact c.self.inside.facts.keys c.self.inside.marks.items c.self.inside.places.items c.self.invariant.are_marked c.args.n (Claimed c.in-Claimed.number) (subst (λ z. z ≡ slice_index_or c.self.inside.places.items c.args.n z) c.in-Claimed.is c.index.ensures) here ∙
    ap (λ fs. Some (as_claim (slice_index_or fs c.in-Claimed.number (Called 0 0)))) (sym c.as_slice-in-Claimed.ensures.keys) ∙ ap Some (sym c.as_claim.ensures)
