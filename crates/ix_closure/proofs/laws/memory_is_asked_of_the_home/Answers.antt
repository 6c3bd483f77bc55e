use Rattle.std.proofs.Common.{◌≡◌, ◌+◌, ◌<◌, ℕ, List, length, replicate, refl, arith}
use Rattle.std.proofs.lemmas.List.{length-replicate}
use Rattle.ix_cluster.specs.declared.limits.TheConstants.{FACT_LIMIT}
use Rattle.ix_cluster.specs.declared.fact.Fact.{Fact}
use Rattle.ix_cluster.specs.declared.fact.Fact.TheVariants.{Called, End}
use Rattle.ix_cluster.specs.Facts.{put}
use Rattle.ix_cluster.specs.Room.{unclaimed_in}
use Rattle.ix_closure.proofs.Weighing.Progress.{put_longer}
use Rattle.ix_closure.proofs.laws.memory_is_asked_of_the_home.Goals as goal

-- a log is not shorter after a fact is put into it
too_long : (n : ℕ) (log : List Fact) (f : Fact) → length log ≡ n → length (put log f) + unclaimed_in (put log f) < n → ⊥
too_long n log f long few = omega (arith, long, few, put_longer log f)

pub returns-clause-long : goal.returns-clause-long
returns-clause-long c = λ h. too_long FACT_LIMIT (replicate FACT_LIMIT (Called 0 0)) (End 0 0 0) (length-replicate FACT_LIMIT (Called 0 0)) (h (record { log = replicate FACT_LIMIT (Called 0 0); handed = 0 }) refl)
