-- Small states that are balanced though something is recorded without what it comes from.
use Rattle.std.proofs.Common.{rules, ◌≡◌, Some, ◌∙◌, ℕ, ◌+◌, ◌<◌, [], ◌∷◌, ◌++◌, Contains, None, codes, length, refl, sym, subst, arith}
use Rattle.ix_model.specs.Closure.Useful.{sub_at}
use Rattle.ix_model.specs.Closure.Closed as closed
use Rattle.ix_model.specs.Expansion.Parts.{Parts}
use Rattle.ix_examples.specs.SmallPlans.{cycle, only_a, two_halves}
use Rattle.ix_model.specs.Expansion.SlotPlaces.{IsFirstSlot}
use Rattle.ix_model.specs.Expansion.Slots.{info_at}
use Rattle.ix_examples.proofs.SmallClosures.{desc_1, part_1}
use Rattle.ix_examples.proofs.SmallPlans.{planned_a, planned_halves}
use Rattle.ix_cluster.specs.declared.limits.TheConstants.{FACT_LIMIT}
use Rattle.ix_cluster.specs.declared.fact.Fact.{Fact}
use Rattle.ix_cluster.specs.declared.fact.Fact.TheVariants as fact
use Rattle.ix_cluster.specs.Banks.{opening_bank, facts_of}
use Rattle.ix_cluster.specs.Facts.{put}
use Rattle.ix_cluster.specs.Homes.{home}
use Rattle.ix_cluster.specs.Room.{unclaimed_in}
use Rattle.ix_cluster.specs.Seen.{Bank}
use Rattle.ix_cluster.specs.Sound.{IsSoundBank}
use Rattle.ix_cluster.proofs.Handing.{desc-none, handed-put_other}
use Rattle.ix_cluster.proofs.Members.{put-keeps}
use Rattle.ix_cluster.proofs.SmallBanks.{begins_sound, cycle_planned, first_begins}
use Rattle.ix_cluster.proofs.Soundness.{companions-put, good-put, sound-arrival, sound-begin, sound-edge}
use Rattle.ix_closure.specs.declared.owed.Owed.{Owed}
use Rattle.ix_closure.specs.declared.owed.Owed.TheVariants.{Claim}
use Rattle.ix_closure.specs.Balance.{IsBalanced}
use Rattle.ix_closure.specs.Due.{IsRecorded, FollowsIn, claim, passed, inserted, waits, ends, meets}
use Rattle.ix_closure.specs.Examples.{a_called, alone, cycle_called}
use Rattle.ix_closure.specs.Follows.{claim_for, claims_for}
use Rattle.ix_closure.proofs.Lists.ListMembers.{filter_from, filter_has}
use Rattle.ix_closure.proofs.Small.SmallStates.{one_sound}
use Rattle.ix_closure.proofs.Small.SmallSteps.{next_0_c}

-- ---- a bank without claims and ends, where each descriptor is to be claimed

module _ (plan : Parts) (bank : Bank) (sound : IsSoundBank plan 1 0 bank) (unclaimed : (s l p : ℕ) → IsRecorded (bank ∷ []) (fact.Claim s l p) → ⊥) (no_end : (r k e : ℕ) → IsRecorded (bank ∷ []) (fact.End r k e) → ⊥) where
  missing_owed : (step : Owed) → FollowsIn plan (bank ∷ []) step → Contains (claims_for (facts_of (bank ∷ []))) step
  missing_owed step (claim s l p h) = filter_has claim_for (facts_of (bank ∷ [])) (fact.Desc s l p) (Claim s l p) h refl
  missing_owed step (passed s l p after e x h next t) = absurd (unclaimed s l p h)
  missing_owed step (inserted s l p after n h next) = absurd (unclaimed s l p h)
  missing_owed step (waits s l p after r mark h next) = absurd (unclaimed s l p h)
  missing_owed step (ends s l p r h last) = absurd (unclaimed s l p h)
  missing_owed step (meets r k s l e after mark edge end next) = absurd (no_end r k e end)

  owed_follows : (step : Owed) → Contains (claims_for (facts_of (bank ∷ []))) step → FollowsIn plan (bank ∷ []) step
  owed_follows step h = let f = filter_from claim_for (facts_of (bank ∷ [])) step h in by f.0 f.1 f.2
    where
      by : (f : Fact) → IsRecorded (bank ∷ []) f → claim_for f ≡ Some step → FollowsIn plan (bank ∷ []) step
      by (fact.Desc s l p) there e = subst (FollowsIn plan (bank ∷ [])) (cc e) (claim s l p there)
      by f there e = absurd (cc e)

  pub claims_balanced : IsBalanced plan (record { banks = bank ∷ []; owed = claims_for (facts_of (bank ∷ [])) })
  claims_balanced = record {
    sound = one_sound plan bank sound;
    missing = λ step missing. missing_owed step missing.0;
    caused = owed_follows;
  }

-- a descriptor of the closure leaves a bank sound
sound_desc : (plan : Parts) (old : Bank) (s l p : ℕ) → closed.Desc plan s l p → home (info_at plan s).head l 1 ≡ 0 → length (put old.log (fact.Desc s l p)) + unclaimed_in (put old.log (fact.Desc s l p)) < FACT_LIMIT → IsSoundBank plan 1 0 old → IsSoundBank plan 1 0 (record { log = put old.log (fact.Desc s l p); handed = old.handed })
sound_desc plan old s l p desc here bounded sound =
    let good =
    good-put plan 1 0 old.log (fact.Desc s l p) (record { at_home = here; closed = desc; later = λ s' l' p' e. absurd (cc e) })
    (record { once = sound.once; at_home = sound.at_home; true_facts = sound.true_facts }) in
    record {
      once = good.once;
      at_home = good.at_home;
      true_facts = good.true_facts;
      companions = companions-put plan old.log (fact.Desc s l p) sound.companions tt;
      handed = sound.handed ∙ sym (handed-put_other old.log (fact.Desc s l p) (desc-none s l p));
      opened = λ e. put-keeps old.log (fact.Desc s l p) (fact.Called 0 0) (sound.opened e);
      bounded = bounded;
    }

-- ---- S: S; "a".   an edge whose descriptor is not claimed

edge_sound : IsSoundBank (cycle []) 1 0 (record { log = cycle_called ++ fact.Edge 0 0 0 0 ∷ []; handed = 0 })
edge_sound =
    sound-edge (cycle []) 1 0 cycle_planned (opening_bank (cycle []) 1 0) (record { log = cycle_called ++ fact.Edge 0 0 0 0 ∷ []; handed = 0 }) 0 0 0 0 [] (omega arith) refl refl refl (omega arith) refl
    (closed.waiting 0 0 0 1 0 None (closed.begun 0 0 0 closed.start first_begins) next_0_c) begins_sound

pub edge_balanced : IsBalanced (cycle []) (alone (cycle_called ++ fact.Edge 0 0 0 0 ∷ []) 0 (Claim 0 0 0 ∷ Claim 2 0 0 ∷ []))
edge_balanced = claims_balanced (cycle []) (record { log = cycle_called ++ fact.Edge 0 0 0 0 ∷ []; handed = 0 }) edge_sound (search rules) (search rules)

-- ---- S: "a".

a_sound : IsSoundBank (only_a (codes "a")) 1 0 (record { log = a_called; handed = 0 })
a_sound = sound-begin (only_a (codes "a")) 1 0 planned_a refl (omega arith)

-- a subtree that no step leads to
subtree_sound : IsSoundBank (only_a (codes "a")) 1 0 (record { log = a_called ++ fact.Part (sub_at 1 0 0 1) ∷ fact.Desc 1 0 1 ∷ []; handed = 0 })
subtree_sound = sound-arrival (only_a (codes "a")) 1 0 (record { log = a_called; handed = 0 }) (record { log = a_called ++ fact.Part (sub_at 1 0 0 1) ∷ fact.Desc 1 0 1 ∷ []; handed = 0 }) (sub_at 1 0 0 1) refl refl (omega arith) refl part_1 a_sound

pub subtree_balanced : IsBalanced (only_a (codes "a")) (alone (a_called ++ fact.Part (sub_at 1 0 0 1) ∷ fact.Desc 1 0 1 ∷ []) 0 (Claim 0 0 0 ∷ Claim 1 0 1 ∷ []))
subtree_balanced = claims_balanced (only_a (codes "a")) (record { log = a_called ++ fact.Part (sub_at 1 0 0 1) ∷ fact.Desc 1 0 1 ∷ []; handed = 0 }) subtree_sound (search rules) (search rules)

-- a descriptor without its subtree
pub descriptor_balanced : IsBalanced (only_a (codes "a")) (alone (a_called ++ fact.Desc 1 0 1 ∷ []) 0 (Claim 0 0 0 ∷ Claim 1 0 1 ∷ []))
descriptor_balanced =
    claims_balanced (only_a (codes "a")) (record { log = a_called ++ fact.Desc 1 0 1 ∷ []; handed = 0 })
    (sound_desc (only_a (codes "a")) (record { log = a_called; handed = 0 }) 1 0 1 desc_1 refl (omega arith) a_sound) (search rules) (search rules)

-- ---- S: A, A. A: "a"; .   the descriptor of a rule that is not called

pub first_of_half : IsFirstSlot (two_halves (codes "a")) 3 1
first_of_half = (0, _, refl, (_, _, refl, refl, refl))

half_begins : closed.Desc (two_halves (codes "a")) 3 0 0
half_begins =
    closed.begun 1 0 3
    (closed.by_edge 1 0 0 0 (closed.waiting 0 0 0 1 1 None (closed.begun 0 0 0 closed.start (0, _, refl, (_, _, refl, refl, refl))) (0, 0, 0, _, refl, refl, (_, _, refl, refl, refl), refl)))
    first_of_half

pub half_balanced : IsBalanced (two_halves (codes "a")) (alone (a_called ++ fact.Desc 3 0 0 ∷ []) 0 (Claim 0 0 0 ∷ Claim 3 0 0 ∷ []))
half_balanced =
    claims_balanced (two_halves (codes "a")) (record { log = a_called ++ fact.Desc 3 0 0 ∷ []; handed = 0 })
    (sound_desc (two_halves (codes "a")) (record { log = a_called; handed = 0 }) 3 0 0 half_begins refl (omega arith) (sound-begin (two_halves (codes "a")) 1 0 planned_halves refl (omega arith)))
    (search rules) (search rules)
