-- That a fault is told only where a count of faults rose. So an answer that blames the outside has a trace outside.
use Rattle.std.specs.Prelude.{ℕ, Bool, true, false, ◌+◌, ◌-◌, ◌^◌, ◌≤◌, min, Result, Ok, Err, OnErr}
use Rattle.ix_edge.specs.declared.fault.LoadFault.{LoadFault}
use Rattle.ix_edge.specs.declared.fault.LoadFault.TheVariants.{Failed, Memory}

-- one more than the count; a count stays at the last u64
abbrev pub one_more : ℕ → ℕ
one_more n = min (n + 1) (2 ^ 64 - 1)

-- a count is greater than before, or stands at the last u64
abbrev pub Rose : ℕ → ℕ → Type 0
Rose before now = min (before + 1) (2 ^ 64 - 1) ≤ now

-- a count never falls, and an Err comes only where it rose
pub record HasCause {T E : Type 0} (before now : ℕ) (result : Result T E) : Type 0 where
  pub later : before ≤ now
  pub failed : OnErr result (Rose before now)

-- whether a load failed, and not for want of memory
abbrev pub has_failed : {V : Type 0} → Result V LoadFault → Bool
has_failed (Ok _) = false
has_failed (Err Failed) = true
has_failed (Err Memory) = false
