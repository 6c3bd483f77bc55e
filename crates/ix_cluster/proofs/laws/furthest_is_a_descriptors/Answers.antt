use Rattle.std.proofs.Common.{[], ◌∷◌, refl, arith}
use Rattle.ix_cluster.specs.declared.fact.Fact.TheVariants.{Claim, Desc}
use Rattle.ix_cluster.proofs.Furthest.{is_furthest}
use Rattle.ix_cluster.proofs.Members.{first_has}
use Rattle.ix_cluster.proofs.laws.furthest_is_a_descriptors.Goals as goal

pub returns-clause-furthest : goal.returns-clause-furthest
returns-clause-furthest c = is_furthest (Desc 1 0 3 ∷ Claim 1 0 4 ∷ Desc 0 1 1 ∷ []) 3 refl

pub returns-clause-too_small : goal.returns-clause-too_small
returns-clause-too_small c = λ h. let e = h.upper 1 0 3 (first_has (Desc 1 0 3) (Desc 0 1 1 ∷ [])) in omega (arith, e)
