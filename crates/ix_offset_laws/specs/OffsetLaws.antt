-- Laws of the offset: the furthest descriptor of a closure stands there.
use Rattle.std.specs.Prelude.{◌≡◌, ◌⊎◌, ◌↔◌, ℕ}
use Rattle.ix_model.specs.declared.grammar.Grammar.{Grammar}
use Rattle.ix_model.specs.Derivations.Offset.{IsReached, Offset}
use Rattle.ix_model.specs.Expansion.Parts.{Parts}
use Rattle.ix_model.specs.Expansion.Planned.{IsPlanned, IsPlanOf}
use Rattle.ix_offset_laws.specs.Furthest.{HasDotAt, Furthest}

-- where a descriptor has its dot, the text begins, or a literal or set that is entered ends
abbrev pub DescriptorsAreReached : Type 0
DescriptorsAreReached = (g : Grammar) (plan : Parts) (p : ℕ) → IsPlanOf g plan → HasDotAt plan p → (p ≡ 0) ⊎ IsReached g plan.text p

-- where a literal or set that is entered ends, a descriptor has its dot
abbrev pub ReachedHaveDescriptors : Type 0
ReachedHaveDescriptors = (g : Grammar) (plan : Parts) (p : ℕ) → IsPlanOf g plan → IsPlanned plan → IsReached g plan.text p → HasDotAt plan p

-- the furthest position of a descriptor is the offset of the text
abbrev pub FurthestIsOffset : Type 0
FurthestIsOffset = (g : Grammar) (plan : Parts) (o : ℕ) → IsPlanOf g plan → IsPlanned plan → Furthest plan o ↔ Offset g plan.text o

-- no two positions are the furthest
abbrev pub FurthestIsOne : Type 0
FurthestIsOne = (plan : Parts) (o p : ℕ) → Furthest plan o → Furthest plan p → o ≡ p
