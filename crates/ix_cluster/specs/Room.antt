-- The room that a log keeps for claims to come. It is this project's own.
use Rattle.std.specs.Prelude.{ℕ, ◌+◌, ◌≤◌, ◌<◌, Bool, false, not, List, length, count_by}
use Rattle.ix_cluster.specs.declared.limits.TheConstants.{FACT_LIMIT}
use Rattle.ix_cluster.specs.declared.fact.Fact.{Fact}
use Rattle.ix_cluster.specs.declared.fact.Fact.TheVariants.{Desc, Claim}
use Rattle.ix_cluster.specs.Facts.{has}

-- a descriptor that has no claim in the log
abbrev pub is_unclaimed : List Fact → Fact → Bool
is_unclaimed log (Desc s l p) = not (has log (Claim s l p))
is_unclaimed log _ = false

-- how many descriptors have no claim
abbrev pub unclaimed_in : List Fact → ℕ
unclaimed_in log = count_by (is_unclaimed log) log

-- the claims that are to come have room, and so have further facts
pub record HasRoom (facts : List Fact) (spare unclaimed free : ℕ) : Type 0 where
  -- no more descriptors wait than were counted
  pub counted : unclaimed_in facts ≤ unclaimed
  pub room : unclaimed + free ≤ spare
  pub small : length facts + unclaimed + free < FACT_LIMIT
