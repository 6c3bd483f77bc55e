-- The steps that follow from one entry of a log. It is this project's own order of work over the closure's rules.
use Rattle.std.specs.Prelude.{◌≡◌, ℕ, List, [], ◌∷◌, Contains, Option}
use Rattle.ix_model.specs.Closure.Useful.{sub_at}
use Rattle.ix_model.specs.declared.grammar.Mark.{Mark}
use Rattle.ix_model.specs.declared.rules.Sym.TheVariants as sym
use Rattle.ix_model.specs.Expansion.Parts.{Parts}
use Rattle.ix_model.specs.Expansion.SlotPlaces.{HasNext}
use Rattle.ix_cluster.specs.declared.fact.Fact.{Fact}
use Rattle.ix_cluster.specs.declared.fact.Fact.TheVariants as fact
use Rattle.ix_closure.specs.declared.owed.Owed.{Owed}
use Rattle.ix_closure.specs.declared.owed.Owed.TheVariants.{Claim, Arrive}
use Rattle.ix_closure.specs.Follows.{FollowsDesc}

-- the step follows from the fact, perhaps with one of those before it in the same log: from a descriptor its claim, from a
-- claim what the claimed descriptor brings, and from an edge and an end the arrival where they meet, by whichever came later
abbrev pub IsBrought : Parts → List Fact → Fact → Owed → Type 0
IsBrought plan before (fact.Desc s l p) step = step ≡ Claim s l p
IsBrought plan before (fact.Claim s l p) step = FollowsDesc plan s l p (step ∷ [])
IsBrought plan before (fact.Edge r k s l) step =
    (e : ℕ) × (after : ℕ) × (mark : Option Mark) × Contains before (fact.End r k e) × HasNext plan s after (sym.Rule r mark) × (step ≡ Arrive (sub_at after l k e))
IsBrought plan before (fact.End r k e) step =
    (s : ℕ) × (l : ℕ) × (after : ℕ) × (mark : Option Mark) × Contains before (fact.Edge r k s l) × HasNext plan s after (sym.Rule r mark) × (step ≡ Arrive (sub_at after l k e))
IsBrought plan before _ step = ⊥
