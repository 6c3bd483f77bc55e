use Rattle.std.proofs.Common.{◌≡◌, [], length, refl, ap, ◌∙◌, inl, inr, codes, arith}
use Rattle.ix_model.specs.Expansion.Parts.{Parts}
use Rattle.ix_examples.specs.SmallPlans.{cycle}
use Rattle.ix_cluster.specs.Banks.{opening}
use Rattle.ix_table.specs.Sights.{Sight}
use Rattle.ix_table.proofs.Closings.{begun_is, sight_is}
use Rattle.ix_table.proofs.SmallOpening.{cycle_opens_sound}
use Rattle.ix_table.proofs.laws.passes_fit_and_begin.Goals as goal

pub returns-clause-made : goal.returns-clause-made
returns-clause-made c = λ table pass places id me. let names = ap (λ z. z.0.topic) me in ((id, (inl (ap (λ z. z.0.root) me), (table.plan.now, names))), (ap (λ z. z.1) me, ap (λ z. z.0.place) me), names, places)

pub returns-clause-split : goal.returns-clause-split
returns-clause-split c = λ table pass places id me. let names = ap (λ z. z.0.topic) me in ((id, (inr (ap (λ z. z.0.lent) me), (table.plan.now, names))), (ap (λ z. z.1) me, ap (λ z. z.0.place) me), names, places)

pub returns-clause-joined : goal.returns-clause-joined
returns-clause-joined c = λ table pass me fits. let none = ap (λ z. z.0.topic) me in let some = fits.2 in absurd (cc (none, some))

pub returns-clause-other_plan : goal.returns-clause-other_plan
returns-clause-other_plan c = λ table pass plan me fits.
    let one = ap (λ z. z.0.topic) me in let other = fits.2 in
    let same : cycle (codes "a") ≡ cycle [] = cc (one, other, plan) in
    let size : 1 ≡ 0 = ap (λ (z : Parts). length z.text) same in absurd (omega (arith, size))

pub returns-clause-begun : goal.returns-clause-begun
returns-clause-begun c = λ pass me. record {
  root = ap (λ z. z.root) me;
  whole = ap (λ z. z.out) me;
  begun = ap (λ z. z.begun) me ∙ begun_is (cycle []) (opening (cycle []) 64) refl cycle_opens_sound;
  sight = sight_is (cycle []) (opening (cycle []) 64) refl cycle_opens_sound pass me;
  sound = cycle_opens_sound;
}

pub returns-clause-holding : goal.returns-clause-holding
returns-clause-holding c = λ table pass held fits. let some = held.0 in let none = fits.1.0 in absurd (cc (some, none))

pub returns-clause-no_root : goal.returns-clause-no_root
returns-clause-no_root c = λ plan pass no begun. no begun.root

pub returns-clause-pass_out : goal.returns-clause-pass_out
returns-clause-pass_out c = λ plan pass out begun. let whole = begun.whole in absurd (omega (arith, out, whole))

pub returns-clause-own_entry : goal.returns-clause-own_entry
returns-clause-own_entry c = λ plan pass own begun. let none = ap (λ (z : Sight). z.own) begun.sight in absurd (cc (own, none))
