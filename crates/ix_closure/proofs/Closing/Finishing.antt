-- Each step of a core that is being finished leaves less to do.
use Rattle.std.proofs.Common.{◌≡◌, ℕ, ◌+◌, ◌-◌, ◌*◌, ◌^◌, ◌<◌, ◌≤◌, false, List, length, Contains, Result, Ok, Err, OnOk, is_err, ◌⊎◌, inl, inr, arith}
use Rattle.std.proofs.Math.Nat.{mul-le-mul_right}
use Rattle.ix_model.specs.Expansion.Parts.{Parts}
use Rattle.ix_model.specs.Expansion.Planned.{IsPlanned}
use Rattle.ix_cluster.specs.declared.limits.TheConstants.{BANK_LIMIT, FACT_LIMIT}
use Rattle.ix_cluster.specs.Banks.{facts_of}
use Rattle.ix_cluster.specs.Seen.{Bank}
use Rattle.ix_cluster.specs.Sound.{AreSound}
use Rattle.ix_closure.specs.Balance.{IsBalanced}
use Rattle.ix_closure.specs.Events.{Event}
use Rattle.ix_closure.specs.Seen.{State}
use Rattle.ix_closure.proofs.Balancing.EventBanks.{event_sound}
use Rattle.ix_closure.proofs.Lists.ListCounts.{length_flat}
use Rattle.ix_closure.proofs.Lists.ListMembers.{place_in}
use Rattle.ix_closure.proofs.Weighing.Progress.{event_shrinks}

pub from_on_ok : {T E P : Type 0} (r : Result T E) → is_err r ≡ false → OnOk r P → P
from_on_ok (Ok x) e p = p
from_on_ok (Err y) e p = absurd (cc)

-- sound banks have fewer facts than any machine has memory for
few_facts : (plan : Parts) (banks : List Bank) → AreSound plan banks → length (facts_of banks) ≤ BANK_LIMIT * FACT_LIMIT
few_facts plan banks sound = omega (arith, length_flat (λ (bank : Bank). bank.log) FACT_LIMIT banks few, sound.few)
  where
    few : (bank : Bank) → Contains banks bank → length bank.log ≤ FACT_LIMIT
    few bank there = let p = place_in banks bank there in omega (arith, (sound.each p.0 bank p.1).bounded)

-- the room that is left for facts counts most, and then the number of owed steps
room_falls : (top w l l' q q' : ℕ) → l' ≤ top → q' < w → (l + 1 ≤ l') ⊎ ((l ≤ l') × (q' + 1 ≡ q)) → (top - l') * w + q' < (top - l) * w + q
room_falls top w l l' q q' h small (inl more) =
    let d : (top - l') + 1 ≤ top - l = omega arith in
    let m : ((top - l') + 1) * w ≤ (top - l) * w = mul-le-mul_right w d in
    grind arith
room_falls top w l l' q q' h small (inr fewer) =
    let d : top - l' ≤ top - l = omega (arith, fewer.0) in
    let m : (top - l') * w ≤ (top - l) * w = mul-le-mul_right w d in
    omega (arith, fewer.1)

-- so what is left to do gets less
pub event_falls : (plan : Parts) → IsPlanned plan → (old new : State) (n : ℕ) → IsBalanced plan old → Event plan old n new → length new.owed < 2 ^ 63
    → (BANK_LIMIT * FACT_LIMIT - length (facts_of new.banks)) * 2 ^ 64 + length new.owed < (BANK_LIMIT * FACT_LIMIT - length (facts_of old.banks)) * 2 ^ 64 + length old.owed
event_falls plan planned old new n balanced event small =
    room_falls (BANK_LIMIT * FACT_LIMIT) (2 ^ 64) (length (facts_of old.banks)) (length (facts_of new.banks)) (length old.owed) (length new.owed)
    (few_facts plan new.banks (event_sound plan planned old new n balanced event)) (omega (arith, small)) (event_shrinks plan old new n event)
