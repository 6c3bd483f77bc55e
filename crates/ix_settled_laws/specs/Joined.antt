-- The whole work: shares are handed out, each worker does steps until it owes nothing, and the passes are joined. It is this
-- project's own.
use Rattle.std.specs.Prelude.{◌≡◌, ◌<◌, ℕ, suc, List, [], ◌∷◌, ◌++◌, length, Some, slice_get}
use Rattle.ix_model.specs.Expansion.Parts.{Parts}
use Rattle.ix_cluster.specs.Banks.{opening, facts_of}
use Rattle.ix_cluster.specs.Seen.{Bank}
use Rattle.ix_closure.specs.declared.owed.Owed.{Owed}
use Rattle.ix_closure.specs.Follows.{claims_for}
use Rattle.ix_rows.specs.Beginnings.{Begins}
use Rattle.ix_rows.specs.Logs.{log_at}
use Rattle.ix_table.specs.Sights.{Sight}
use Rattle.ix_table.specs.Tables.{logs_of, lengths_of, IsClosed}
use Rattle.ix_settled_laws.specs.Done.{Works}

-- what a worker begins with, and what it hands back: what its pass sees, and what is owed
pub record Share : Type 0 where
  pub sight : Sight
  pub owed : List Owed

-- one sight came from another as these shares' passes were joined to it, one after the other: it has the entries of each, and
-- knows at each place what either knew
pub data Joins (first : Sight) : List Share → Sight → Type 0 where
  none : Joins first [] first
  one_more : (shares : List Share) (old : Sight) (share : Share) (new : Sight) → Joins first shares old → new.own ≡ old.own ++ share.sight.own
      → ((m : ℕ) → Begins (log_at new.known m) (log_at old.known m) × Begins (log_at new.known m) (log_at share.sight.known m)) → Joins first (shares ++ share ∷ []) new

-- what each pass sees at the start of a table
abbrev pub first_sight : Parts → Sight
first_sight plan = record { known = logs_of (opening plan 64); own = [] }

pub record IsWork (plan : Parts) (jobs done : List Share) (root : Sight) (banks : List Bank) : Type 0 where
  -- each pass was split before any step; the first worker owes the claims of the descriptors at the start, and the others
  -- owe nothing
  pub some : 0 < length jobs
  pub sights : (k : ℕ) (job : Share) → slice_get jobs k ≡ Some job → job.sight ≡ first_sight plan
  pub claims : (job : Share) → slice_get jobs 0 ≡ Some job → job.owed ≡ claims_for (facts_of (opening plan 64))
  pub nothing : (k : ℕ) (job : Share) → slice_get jobs (suc k) ≡ Some job → job.owed ≡ []
  -- each worker did steps, until it owed nothing
  pub as_many : length done ≡ length jobs
  pub works : (k : ℕ) (job back : Share) → slice_get jobs k ≡ Some job → slice_get done k ≡ Some back → Works plan job.sight job.owed back.sight back.owed
  pub empty : (k : ℕ) (back : Share) → slice_get done k ≡ Some back → back.owed ≡ []
  -- the passes were joined to the root, and the table was closed
  pub joins : Joins (first_sight plan) done root
  pub closed : IsClosed plan (lengths_of (opening plan 64)) root banks
