-- The steps that follow from what is recorded, and those of them that are missing.
-- Source: the rules of the closure (ix_model, Closed).
use Rattle.std.specs.Prelude.{ℕ, List, Contains, Option}
use Rattle.ix_model.specs.Closure.Useful.{sub_at}
use Rattle.ix_model.specs.declared.grammar.Mark.{Mark}
use Rattle.ix_model.specs.declared.rules.Sym.{Sym}
use Rattle.ix_model.specs.declared.rules.Sym.TheVariants as sym
use Rattle.ix_model.specs.Expansion.Parts.{Parts}
use Rattle.ix_model.specs.Expansion.FlatDerives.{IsTerminal}
use Rattle.ix_model.specs.Expansion.SlotPlaces.{HasNext, IsLastSlot}
use Rattle.ix_cluster.specs.declared.fact.Fact.{Fact}
use Rattle.ix_cluster.specs.declared.fact.Fact.TheVariants as fact
use Rattle.ix_cluster.specs.Banks.{facts_of}
use Rattle.ix_cluster.specs.Seen.{Bank}
use Rattle.ix_closure.specs.declared.owed.Owed.{Owed}
use Rattle.ix_closure.specs.declared.owed.Owed.TheVariants.{Claim, Edge, End, Arrive}
use Rattle.ix_closure.specs.Follows.{fact_of}

-- one of the banks has recorded the fact
abbrev pub IsRecorded : List Bank → Fact → Type 0
IsRecorded banks f = Contains (facts_of banks) f

module _ (plan : Parts) (Holds : Fact → Type 0) where
  -- the step follows from a descriptor, from a claimed descriptor, or from an edge and an end of one cluster
  pub data IsDue : Owed → Type 0 where
    -- a descriptor is to be claimed
    claim : (s l p : ℕ) → Holds (fact.Desc s l p) → IsDue (Claim s l p)
    -- a claimed descriptor passes a terminal that stands there
    passed : (s l p after e : ℕ) (x : Sym) → Holds (fact.Claim s l p) → HasNext plan s after x → IsTerminal plan x p e → IsDue (Arrive (sub_at after l p e))
    -- or an insertion
    inserted : (s l p after n : ℕ) → Holds (fact.Claim s l p) → HasNext plan s after (sym.Insert n) → IsDue (Arrive (sub_at after l p p))
    -- or waits for a rule
    waits : (s l p after r : ℕ) (mark : Option Mark) → Holds (fact.Claim s l p) → HasNext plan s after (sym.Rule r mark) → IsDue (Edge r p s l)
    -- or ends its own
    ends : (s l p r : ℕ) → Holds (fact.Claim s l p) → IsLastSlot plan s r → IsDue (End r l p)
    -- an edge and an end of one cluster meet
    meets : (r k s l e after : ℕ) (mark : Option Mark) → Holds (fact.Edge r k s l) → Holds (fact.End r k e) → HasNext plan s after (sym.Rule r mark) → IsDue (Arrive (sub_at after l k e))

-- the step follows from what the banks have recorded
abbrev pub FollowsIn : Parts → List Bank → Owed → Type 0
FollowsIn plan banks step = IsDue plan (IsRecorded banks) step

-- the step follows, and what it is to record is not recorded
abbrev pub IsMissing : Parts → List Bank → Owed → Type 0
IsMissing plan banks step = FollowsIn plan banks step × ¬ (IsRecorded banks (fact_of step))
