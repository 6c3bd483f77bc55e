-- Small workers over the banks of `S: .` on the empty text: what the worked examples speak of. The first bank alone has facts.
use Rattle.std.specs.Prelude.{ℕ, List, [], ◌∷◌, ◌++◌, drop}
use Rattle.ix_cluster.specs.declared.fact.Fact.{Fact}
use Rattle.ix_cluster.specs.declared.fact.Fact.TheVariants as fact
use Rattle.ix_examples.specs.SmallPlans.{nothing}
use Rattle.ix_cluster.specs.Banks.{opening}
use Rattle.ix_cluster.specs.Seen.{Bank}
use Rattle.ix_closure.specs.declared.owed.Owed.{Owed}
use Rattle.ix_closure.specs.declared.owed.Owed.TheVariants.{Claim}
use Rattle.ix_closure.specs.Examples.{nothing_called, nothing_closed}
use Rattle.ix_table.specs.Examples.{seen}
use Rattle.ix_table.specs.Sights.{Sight, seen_after}
use Rattle.ix_settled_laws.specs.Joined.{Share, first_sight}
use Rattle.ix_settled_laws.specs.Workers.{Worker}

-- the worker that answers for the three entries at the start, and owes these
abbrev pub leader : List Owed → Worker
leader owed = record { begun = 3 ∷ []; sight = seen nothing_called []; owed = owed }

-- one that answers for none of them, but for these entries that came by it, and owes these
abbrev pub follower : List (ℕ × ℕ) → List Owed → Worker
follower own owed = record { begun = []; sight = seen nothing_called own; owed = owed }

-- the log after the first claim
abbrev pub once_claimed : List Fact
once_claimed = nothing_called ++ fact.Claim 0 0 0 ∷ []

-- the share of a worker that claimed the descriptor, and owes these
abbrev pub claimer : List Owed → Share
claimer owed = record { sight = seen once_claimed ((0, 3) ∷ []); owed = owed }

-- the worker that such a share leaves to one that answers for the start too
abbrev pub leader_later : List Owed → Worker
leader_later owed = record { begun = 3 ∷ []; sight = seen once_claimed ((0, 3) ∷ []); owed = owed }

-- ---- the whole work of one worker

abbrev pub only_job : Share
only_job = record { sight = first_sight (nothing []); owed = Claim 0 0 0 ∷ [] }

-- what is seen once the claim and the end are done
abbrev pub ended_sight : Sight
ended_sight = seen_after (seen_after (first_sight (nothing [])) 0 nothing_called once_claimed) 0 once_claimed nothing_closed

-- the 64 banks then
abbrev pub ended_banks : List Bank
ended_banks = record { log = nothing_closed; handed = 0 } ∷ drop 1 (opening (nothing []) 64)
