use Rattle.std.proofs.Common.{[], ◌∷◌, ap, refl, length, arith}
use Rattle.ix_cluster.specs.declared.fact.Fact.TheVariants.{Desc}
use Rattle.ix_rows.specs.Logs.{log_at}
use Rattle.ix_rows.proofs.Logs.{begins_length}
use Rattle.ix_table.specs.Examples.{first_log, first_bank}
use Rattle.ix_table.specs.Sights.{Sight}
use Rattle.ix_table.proofs.SmallSteps.{first_sound}
use Rattle.ix_table.proofs.laws.look_changes_nothing.Goals as goal

pub returns-clause-same : goal.returns-clause-same
returns-clause-same c = record { met = first_bank; begins = ([], refl); sound_met = first_sound; now = refl }

pub returns-clause-more : goal.returns-clause-more
returns-clause-more c = record { met = first_bank; begins = (Desc 0 0 0 ∷ Desc 2 0 0 ∷ [], refl); sound_met = first_sound; now = refl }

pub returns-clause-not_own : goal.returns-clause-not_own
returns-clause-not_own c = λ h. let own = ap (λ (z : Sight). z.own) h.now in absurd (cc own)

pub returns-clause-less : goal.returns-clause-less
returns-clause-less c = λ h. let few = ap (λ (z : Sight). length (log_at z.known 0)) h.now in let many = begins_length h.met.log first_log h.begins in absurd (omega (arith, few, many))
