-- The bank of `S: S; "a".` at the start, of which the worked examples speak.
use Rattle.std.proofs.Common.{rules, [], ◌∷◌, refl}
use Rattle.ix_model.specs.Expansion.Planned.{IsPlanned}
use Rattle.ix_model.specs.Expansion.SlotPlaces.{IsFirstSlot}
use Rattle.ix_model.specs.Expansion.Expanded.{line}
use Rattle.ix_examples.specs.SmallPlans.{cycle, named, call, literal}
use Rattle.ix_cluster.specs.Banks.{opening_bank}
use Rattle.ix_cluster.specs.Sound.{IsSoundBank}
use Rattle.ix_cluster.proofs.Soundness.{sound-begin}

pub cycle_planned : IsPlanned (cycle [])
cycle_planned = search rules

-- its alternatives begin at the slots 0 and 2
pub first_begins : IsFirstSlot (cycle []) 0 0
first_begins = (0, call 0 ∷ [], refl, (named ((call 0 ∷ []) ∷ (literal 0 ∷ []) ∷ []), line (call 0 ∷ []), refl, refl, refl))

pub second_begins : IsFirstSlot (cycle []) 2 0
second_begins = (1, literal 0 ∷ [], refl, (named ((call 0 ∷ []) ∷ (literal 0 ∷ []) ∷ []), line (literal 0 ∷ []), refl, refl, refl))

pub begins_sound : IsSoundBank (cycle []) 1 0 (opening_bank (cycle []) 1 0)
begins_sound = sound-begin (cycle []) 1 0 cycle_planned refl (search rules)
