-- Files in memory: which of their loads fail, and which counts rise then.
use Rattle.std.specs.Prelude.{◌≡◌, ℕ, Bool, List, not, ◌||◌, ◌==◌, if◌then◌else◌, Result, Ok, Err}
use Rattle.std.specs.List.{list_any}
use Rattle.ix_edge.specs.Causes.{one_more, has_failed}
use Rattle.ix_edge.specs.Counts.{has_name, count_in, raised_count}
use Rattle.ix_edge.specs.declared.entry.Entry.{Entry}
use Rattle.ix_edge.specs.declared.fault.LoadFault.{LoadFault}
use Rattle.ix_edge.specs.declared.fault.LoadFault.TheVariants.{Failed, Memory}
use Rattle.ix_edge.specs.declared.mem_files.MemFiles.{MemFiles}

-- the entries, with their counts as they are now
abbrev pub entries_of : MemFiles → List Entry
entries_of f = f.entries.items

-- the numbers of the loads that are to fail
abbrev pub fails_of : MemFiles → List ℕ
fails_of f = f.fails.items

-- the number of the next load
abbrev pub loads_of : MemFiles → ℕ
loads_of f = f.loads

-- the one count of all missing names
abbrev pub missing_of : MemFiles → ℕ
missing_of f = f.missing

-- whether the next load, of this name, fails: by its number, or since the name is missing
abbrev pub is_to_fail : MemFiles → List ℕ → Bool
is_to_fail f name = list_any (λ n. n == loads_of f) (fails_of f) || not (has_name (entries_of f) name)

-- the number of the next load after one with this result; a load that had no memory leaves it
abbrev pub number_after : {V : Type 0} → Result V LoadFault → ℕ → ℕ
number_after (Ok _) n = one_more n
number_after (Err Failed) n = one_more n
number_after (Err Memory) n = n

-- A load fails exactly where it is to fail. Where it fails, the count that its name has rises by one, and the count of
-- each other name stays, but for the names that share it: those that are missing too. Where it does not fail, all stay.
pub record LoadsByNumber {V : Type 0} (old new : MemFiles) (name : List ℕ) (result : Result V LoadFault) : Type 0 where
  pub fails_where : has_failed result ≡ is_to_fail old name
  pub counts : (other : List ℕ) → count_in (entries_of new) (missing_of new) other ≡
      (if has_failed result then raised_count (entries_of old) (missing_of old) name other
      else count_in (entries_of old) (missing_of old) other)
  pub missing : missing_of new ≡
      (if has_failed result then (if has_name (entries_of old) name then missing_of old else one_more (missing_of old))
      else missing_of old)
  pub number : loads_of new ≡ number_after result (loads_of old)
  pub fails : fails_of new ≡ fails_of old
