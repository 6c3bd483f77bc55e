-- What holds of each bank between two steps. It is this project's own.
use Rattle.std.specs.Prelude.{◌≡◌, ℕ, ◌+◌, ◌<◌, ◌≤◌, List, length, Contains, Some, slice_get, take}
use Rattle.std.specs.List.{IsDistinct}
use Rattle.ix_model.specs.declared.sub.Sub.{Sub}
use Rattle.ix_model.specs.Expansion.Parts.{Parts}
use Rattle.ix_model.specs.Expansion.SlotPlaces.{IsFirstSlot, IsLastSlot}
use Rattle.ix_cluster.specs.declared.limits.TheConstants.{BANK_LIMIT, FACT_LIMIT}
use Rattle.ix_cluster.specs.declared.fact.Fact.{Fact}
use Rattle.ix_cluster.specs.declared.fact.Fact.TheVariants.{Called, Edge, Desc, Part, Claim}
use Rattle.ix_cluster.specs.ClosedFacts.{IsInClosed}
use Rattle.ix_cluster.specs.Facts.{same_fact}
use Rattle.ix_cluster.specs.Handed.{pair_count}
use Rattle.ix_cluster.specs.Homes.{home, home_of}
use Rattle.ix_cluster.specs.Room.{unclaimed_in}
use Rattle.ix_cluster.specs.Seen.{Bank}
use Rattle.ix_cluster.specs.Steps.{empty_sub}

-- each fact is in the closure, and each claim comes after its descriptor
pub record AreTrue (plan : Parts) (log : List Fact) : Type 0 where
  pub closed : (f : Fact) → Contains log f → IsInClosed plan f
  pub later : (n s l p : ℕ) → slice_get log n ≡ Some (Claim s l p) → Contains (take n log) (Desc s l p)

-- what must be there with a fact is there
pub record HasCompanions (plan : Parts) (log : List Fact) : Type 0 where
  -- with a subtree its descriptor
  pub parts : (sub : Sub) → Contains log (Part sub) → Contains log (Desc sub.slot sub.left sub.right)
  -- with a call the descriptor of each alternative's first slot, and the subtree of each empty alternative
  pub alternatives : (r k s : ℕ) → Contains log (Called r k) → IsFirstSlot plan s r → Contains log (Desc s k k)
  pub empties : (r k s : ℕ) → Contains log (Called r k) → IsFirstSlot plan s r → IsLastSlot plan s r → Contains log (Part (empty_sub s k))
  -- with an edge the call of its cluster
  pub edges : (r k s l : ℕ) → Contains log (Edge r k s l) → Contains log (Called r k)

-- what holds of bank m, of so many
pub record IsSoundBank (plan : Parts) (count m : ℕ) (bank : Bank) : Type 0 where
  -- each fact stands in the log once, and this bank is its home
  pub once : IsDistinct same_fact bank.log
  pub at_home : (f : Fact) → Contains bank.log f → home_of plan count f ≡ m
  pub true_facts : AreTrue plan bank.log
  pub companions : HasCompanions plan bank.log
  -- each edge and each end of one cluster were handed out once
  pub handed : bank.handed ≡ pair_count bank.log
  -- in its home the first rule is called at the start
  pub opened : home 0 0 count ≡ m → Contains bank.log (Called 0 0)
  -- no machine has memory for more facts, with the claims to come
  pub bounded : length bank.log + unclaimed_in bank.log < FACT_LIMIT

-- there are banks, no more than the limit, and each is sound
pub record AreSound (plan : Parts) (banks : List Bank) : Type 0 where
  pub some : 0 < length banks
  pub few : length banks ≤ BANK_LIMIT
  pub each : (m : ℕ) (bank : Bank) → slice_get banks m ≡ Some bank → IsSoundBank plan (length banks) m bank
