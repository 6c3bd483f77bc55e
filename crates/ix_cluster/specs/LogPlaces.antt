-- What stands at the places of a log: facts by number, and claims as marks of their descriptors. It is this project's own.
use Rattle.std.specs.Prelude.{ℕ, ◌≡◌, ◌≤◌, ◌<◌, ◌+◌, ◌^◌, Bool, true, false, List, length, map, filter, Contains, Some, slice_get, slice_index_or}
use Rattle.std.specs.List.{IsDistinct}
use Rattle.ix_cluster.specs.declared.fact.Fact.{Fact}
use Rattle.ix_cluster.specs.declared.fact.Fact.TheVariants.{Called, Desc, Claim}
use Rattle.ix_cluster.specs.declared.log.Place.{Place}
use Rattle.ix_cluster.specs.declared.log.Place.TheVariants.{Came, Claimed}
use Rattle.ix_cluster.specs.Facts.{has, same_fact}
use Rattle.ix_cluster.specs.Room.{HasRoom}

-- whether the fact is no claim
abbrev pub is_no_claim : Fact → Bool
is_no_claim (Claim s l p) = false
is_no_claim _ = true

-- the claim of a descriptor; any other fact stays
abbrev pub as_claim : Fact → Fact
as_claim (Desc s l p) = Claim s l p
as_claim f = f

-- the number of a fact that came, or of the descriptor that was claimed
abbrev pub number_of : Place → ℕ
number_of (Came n) = n
number_of (Claimed n) = n

-- what stands at the place, where these are the facts; a number behind them stands for no fact of a log
abbrev pub fact_at : List Fact → Place → Fact
fact_at facts (Came n) = slice_index_or facts n (Called 0 0)
fact_at facts (Claimed n) = as_claim (slice_index_or facts n (Called 0 0))

-- the log, in the order of the places
abbrev pub log_of : List Fact → List Place → List Fact
log_of facts places = map (fact_at facts) places

-- the facts are those of the log but its claims, each once, and the marks tell which descriptors are claimed
pub record AreMarked (facts : List Fact) (marks : List Bool) (places : List Place) : Type 0 where
  pub facts_are : filter is_no_claim (log_of facts places) ≡ facts
  pub within : (place : Place) → Contains places place → number_of place < length facts
  pub once : IsDistinct same_fact (log_of facts places)
  pub a_mark_each : length marks ≡ length facts
  pub marked : (n s l p : ℕ) → slice_get facts n ≡ Some (Desc s l p) → slice_get marks n ≡ Some (has (log_of facts places) (Claim s l p))
  -- a claim's descriptor is there
  pub claims : (s l p : ℕ) → has (log_of facts places) (Claim s l p) ≡ true → has facts (Desc s l p) ≡ true

-- what holds of the fields of each log: so many further facts, marks and places have room
pub record IsLog (facts : List Fact) (marks : List Bool) (places : List Place) (fact_room mark_room place_room unclaimed free : ℕ) : Type 0 where
  pub are_marked : AreMarked facts marks places
  pub room : HasRoom (log_of facts places) place_room unclaimed free
  pub facts_fit : free ≤ fact_room
  pub marks_fit : free ≤ mark_room
  -- each fact's number has 32 bits
  pub numbers : length facts + free ≤ 2 ^ 32
