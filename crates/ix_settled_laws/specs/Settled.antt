-- Banks whose work is done. It is this project's own, over the rules of the closure (ix_model, Closed).
use Rattle.std.specs.Prelude.{ℕ, List, Contains, Option}
use Rattle.ix_model.specs.Closure.Useful.{sub_at}
use Rattle.ix_model.specs.declared.grammar.Mark.{Mark}
use Rattle.ix_model.specs.declared.rules.Sym.TheVariants as sym
use Rattle.ix_model.specs.Expansion.Parts.{Parts}
use Rattle.ix_model.specs.Expansion.SlotPlaces.{HasNext}
use Rattle.ix_cluster.specs.declared.fact.Fact.TheVariants as fact
use Rattle.ix_cluster.specs.Seen.{Bank}
use Rattle.ix_cluster.specs.Sound.{AreSound}
use Rattle.ix_closure.specs.declared.owed.Owed.{Owed}
use Rattle.ix_closure.specs.Adoption.{LacksNothing}
use Rattle.ix_closure.specs.Due.{IsRecorded}
use Rattle.ix_closure.specs.Follows.{fact_of, FollowsDesc}

-- the banks are sound and lack nothing
pub record IsSettled (plan : Parts) (banks : List Bank) : Type 0 where
  pub sound : AreSound plan banks
  pub none : LacksNothing plan banks

-- the banks have recorded what follows from what they have recorded
pub record HaveWhatFollows (plan : Parts) (banks : List Bank) : Type 0 where
  -- each descriptor is claimed
  pub claims : (s l p : ℕ) → IsRecorded banks (fact.Desc s l p) → IsRecorded banks (fact.Claim s l p)
  -- each claimed descriptor has its edge, end or subtree
  pub brings : (s l p : ℕ) (more : List Owed) (step : Owed) → IsRecorded banks (fact.Claim s l p) → FollowsDesc plan s l p more → Contains more step → IsRecorded banks (fact_of step)
  -- and each edge and end of one cluster have their subtree
  pub meets : (r k s l e after : ℕ) (mark : Option Mark) → IsRecorded banks (fact.Edge r k s l) → IsRecorded banks (fact.End r k e) → HasNext plan s after (sym.Rule r mark) → IsRecorded banks (fact.Part (sub_at after l k e))
