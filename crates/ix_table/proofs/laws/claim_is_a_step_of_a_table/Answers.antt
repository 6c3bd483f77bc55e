use Rattle.std.proofs.Common.{◌≡◌, ◌-◌, ℕ, [], length, Some, slice_get, ap, refl, sym, subst, arith}
use Rattle.ix_cluster.specs.declared.fact.Fact.TheVariants.{Desc, Claim}
use Rattle.ix_cluster.specs.BankSteps.{claim_mine, claim_unknown}
use Rattle.ix_cluster.proofs.Members.{Contains-has, one_has, none_has}
use Rattle.ix_cluster.proofs.StepCases.{step_is}
use Rattle.ix_table.specs.Examples.{first_log, first_bank, claimed_bank}
use Rattle.ix_table.specs.Sights.{Sight}
use Rattle.ix_table.proofs.Changes.{run_length}
use Rattle.ix_table.proofs.SmallSteps.{first_sound, claimed_sound, mine_adds}
use Rattle.ix_table.proofs.Tellings.{step_tells}
use Rattle.ix_table.proofs.laws.claim_is_a_step_of_a_table.Goals as goal

pub returns-clause-mine : goal.returns-clause-mine
returns-clause-mine c = record { met = first_bank; left = claimed_bank; begins = ([], refl); step = claim_mine 2 0 0 refl refl; sound_met = first_sound; sound_left = claimed_sound; now = refl }

pub returns-clause-unseen : goal.returns-clause-unseen
returns-clause-unseen c = record { met = first_bank; left = claimed_bank; begins = (first_log, refl); step = claim_mine 2 0 0 refl refl; sound_met = first_sound; sound_left = claimed_sound; now = refl }

pub returns-clause-unknown : goal.returns-clause-unknown
returns-clause-unknown c = record { met = first_bank; left = first_bank; begins = ([], refl); step = claim_unknown 3 0 1 refl; sound_met = first_sound; sound_left = first_sound; now = refl }

pub returns-clause-not_own : goal.returns-clause-not_own
returns-clause-not_own c = λ s. let t = step_tells _ _ _ _ _ s in none_has (0, t.1.0) t.1.2

pub returns-clause-own_twice : goal.returns-clause-own_twice
returns-clause-own_twice c = λ s. let one = mine_adds _ s.met.log _ _ s.left.log s.step refl in let more = ap (λ (z : Sight). length z.own) s.now in let many = run_length 0 (length s.met.log) (length s.left.log - length s.met.log) in absurd (omega (arith, one, more, many))

pub returns-clause-not_known : goal.returns-clause-not_known
returns-clause-not_known c = λ s. let t = step_tells _ _ _ _ _ s in let at : 3 ≡ t.1.0 = ap (λ (z : ℕ × ℕ). z.1) (one_has (0, 3) (0, t.1.0) t.1.2) in let there = subst (λ (n : ℕ). slice_get first_log n ≡ Some (Claim 2 0 0)) (sym at) t.1.1 in absurd (cc there)

pub returns-clause-never_unknown : goal.returns-clause-never_unknown
returns-clause-never_unknown c = λ s. let t = step_tells _ _ _ _ _ s in t.1 (Contains-has first_log (Desc 2 0 0) refl)

pub returns-clause-other_kind : goal.returns-clause-other_kind
returns-clause-other_kind c = λ s. let told = step_is _ _ _ _ _ s.step in cc told.0
