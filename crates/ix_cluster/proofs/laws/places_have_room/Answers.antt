use Rattle.std.proofs.Common.{ℕ, vec_len, vec_capacity, arith, ap, lit<, refl}
use Rattle.std.specs.declared.vec.Vec.{Vec}
use Rattle.std.specs.Option.{option_map_or}
use Rattle.ix_cluster.specs.declared.cluster.Cluster.{Cluster}
use Rattle.ix_cluster.proofs.laws.places_have_room.Goals as goal

-- the rule's position and the room of what stands at a place
pub returns-clause-place : goal.returns-clause-place
returns-clause-place c = record { list = _; at = refl; room = lit< tt }

pub returns-clause-other_list : goal.returns-clause-other_list
returns-clause-other_list c = λ h. omega (arith, ap (λ o. option_map_or (λ (e : Cluster × Vec ℕ (Unit {0})). e.0.at) o 0) h.at)

pub returns-clause-behind : goal.returns-clause-behind
returns-clause-behind c = λ h. absurd (cc h.at)

pub returns-clause-full : goal.returns-clause-full
returns-clause-full c = λ h.
    let len = ap (λ o. option_map_or (λ (e : Cluster × Vec ℕ (Unit {0})). vec_len e.1) o 0) h.at in
    let capacity = ap (λ o. option_map_or (λ (e : Cluster × Vec ℕ (Unit {0})). vec_capacity e.1) o 0) h.at in
    omega (arith, len, capacity, h.room)
