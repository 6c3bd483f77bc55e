use Rattle.std.proofs.Common.{◌≡◌, ℕ, zero, suc, [], ◌∷◌, Some, slice_get, subst, refl, arith}
use Rattle.ix_examples.specs.SmallPlans.{cycle}
use Rattle.ix_cluster.specs.declared.fact.Fact.TheVariants.{Called, Desc}
use Rattle.ix_cluster.specs.Banks.{opening, opening_bank}
use Rattle.ix_cluster.specs.Seen.{Bank}
use Rattle.ix_cluster.specs.Sound.{IsSoundBank}
use Rattle.ix_cluster.proofs.Members.{first_has, none_has}
use Rattle.ix_cluster.proofs.SmallBanks.{begins_sound}
use Rattle.ix_cluster.proofs.laws.banks_begin_sound.Goals as goal

pub returns-clause-one : goal.returns-clause-one
returns-clause-one c = begins_sound

pub returns-clause-all : goal.returns-clause-all
returns-clause-all c = record { some = omega arith; few = omega arith; each = each }
  where
    each : (m : ℕ) (bank : Bank) → slice_get (opening (cycle []) 1) m ≡ Some bank → IsSoundBank (cycle []) 1 m bank
    each zero bank e = let same : opening_bank (cycle []) 1 0 ≡ bank = cc e in subst (IsSoundBank (cycle []) 1 0) same begins_sound
    each (suc m) bank e = absurd (cc e)

pub returns-clause-empty : goal.returns-clause-empty
returns-clause-empty c = λ h. none_has (Called 0 0) (h.opened refl)

pub returns-clause-away : goal.returns-clause-away
returns-clause-away c = λ h. let e : 0 ≡ 1 = h.at_home (Called 0 0) (first_has (Called 0 0) (Desc 0 0 0 ∷ Desc 2 0 0 ∷ [])) in omega (arith, e)

pub returns-clause-none : goal.returns-clause-none
returns-clause-none c = λ h. omega (arith, h.some)
