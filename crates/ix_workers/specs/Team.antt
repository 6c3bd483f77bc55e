-- The workers of one table: how they begin, and what they hand back. It is this project's own.
use Rattle.std.specs.Prelude.{◌≡◌, ◌<◌, ℕ, List, [], false, Some, slice_get}
use Rattle.ix_model.specs.Expansion.Parts.{Parts}
use Rattle.ix_cluster.specs.Banks.{opening, facts_of}
use Rattle.ix_cluster.specs.declared.fact.Fact.{Fact}
use Rattle.ix_closure.specs.declared.owed.Owed.{Owed}
use Rattle.ix_closure.specs.Follows.{claims_for}
use Rattle.ix_table.specs.declared.table.Table.{Table}
use Rattle.ix_table.specs.Sights.{sight_of}
use Rattle.ix_table.specs.Tables.{PassFits}
use Rattle.ix_settled_laws.specs.Done.{Works}
use Rattle.ix_settled_laws.specs.Joined.{Share}
use Rattle.ix_settled_laws.specs.Owing.{OwesClosed}
use Rattle.ix_workers.specs.declared.worker.Finished.{Finished}
use Rattle.ix_workers.specs.declared.worker.Worker.{Worker}

-- of each element and its number
abbrev pub EachAt : {A : Type 0} → (ℕ → A → Type 0) → List A → Type 0
EachAt {A} Holds xs = (k : ℕ) (x : A) → slice_get xs k ≡ Some x → Holds k x

-- the list of worker n at the start: the first owes a claim for each descriptor of the banks as they begin, in the order of
-- their logs, and each other nothing
pub record IsFirstList (plan : Parts) (n : ℕ) (owed : List Owed) : Type 0 where
  pub first : n ≡ 0 → owed ≡ claims_for (facts_of (opening plan 64))
  pub other : 0 < n → owed ≡ []

-- worker n of the table at the start: its pass was split off a root that knows these logs, and has done nothing
pub record IsNew (plan : Parts) (table : Table) (known : List (List Fact)) (n : ℕ) (worker : Worker) : Type 0 where
  pub number : worker.number ≡ n
  pub fits : PassFits table worker.pass
  pub sight : sight_of worker.pass ≡ record { known = known; own = [] }
  pub list : IsFirstList plan n worker.owed.items
  pub closed : OwesClosed plan worker.owed.items

-- what a worker hands back: a pass of the table, and where it met no want of memory it did all that was to do
pub record IsBack (plan : Parts) (table : Table) (worker : Worker) (back : Finished) : Type 0 where
  pub fits : PassFits table back.pass
  pub works : back.short ≡ false → Works plan (sight_of worker.pass) worker.owed.items (sight_of back.pass) []

-- what a worker hands back that owes nothing
abbrev pub back_share : Finished → Share
back_share back = record { sight = sight_of back.pass; owed = [] }
