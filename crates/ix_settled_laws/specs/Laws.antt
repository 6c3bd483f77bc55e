-- Laws of workers: the beginning is faithful, a step keeps a worker faithful, and where faithful workers owe nothing the
-- banks are settled. It is this project's own.
use Rattle.std.specs.Prelude.{◌≡◌, ◌↔◌, ◌⊎◌, ℕ, List, [], ◌∷◌, ◌++◌, Contains, Some, length, remove, slice_get}
use Rattle.ix_model.specs.Expansion.Parts.{Parts}
use Rattle.ix_model.specs.Expansion.Planned.{IsPlanned}
use Rattle.ix_cluster.specs.declared.fact.Fact.{Fact}
use Rattle.ix_cluster.specs.BankSteps.{Answer}
use Rattle.ix_cluster.specs.Banks.{opening, facts_of}
use Rattle.ix_cluster.specs.Seen.{Bank}
use Rattle.ix_cluster.specs.Sound.{AreSound}
use Rattle.ix_cluster.specs.StepAnswers.{answer_to}
use Rattle.ix_closure.specs.declared.owed.Owed.{Owed}
use Rattle.ix_closure.specs.Closure.{IsClosure}
use Rattle.ix_closure.specs.Due.{IsMissing}
use Rattle.ix_closure.specs.Events.{call_of, home_for, log_after}
use Rattle.ix_closure.specs.Follows.{claims_for}
use Rattle.ix_rows.specs.Beginnings.{Begins}
use Rattle.ix_rows.specs.Logs.{log_at}
use Rattle.ix_rows.specs.Passes.{Pass}
use Rattle.ix_rows.specs.Views.{left_of, right_of, both_of, merged}
use Rattle.ix_table.specs.Sights.{Sight, sight_of, seen_after}
use Rattle.ix_table.specs.Tables.{logs_of, lengths_of}
use Rattle.ix_table.specs.TableSteps.{IsStep}
use Rattle.ix_settled_laws.specs.Done.{IsDone, Works}
use Rattle.ix_settled_laws.specs.Faithful.{IsFaithful, KeepsFaith}
use Rattle.ix_settled_laws.specs.Joined.{Share, Joins, IsWork}
use Rattle.ix_settled_laws.specs.Owing.{OwesClosed}
use Rattle.ix_settled_laws.specs.Settled.{IsSettled, HaveWhatFollows}
use Rattle.ix_settled_laws.specs.Taking.{TakesOut}
use Rattle.ix_settled_laws.specs.Workers.{Worker, Answers}

-- ---- the beginning

-- the worker that answers for the entries at the start, and owes what is missing and nothing false, is faithful, and so is
-- one that answers for none of them and owes nothing
abbrev pub BeginningIsFaithful : Type 0
BeginningIsFaithful =
    (plan : Parts) (banks : List Bank) → AreSound plan banks
    → ((owed : List Owed) → ((step : Owed) → IsMissing plan banks step → Contains owed step) → OwesClosed plan owed → IsFaithful plan (length banks) (record { begun = lengths_of banks; sight = record { known = logs_of banks; own = [] }; owed = owed }))
    × IsFaithful plan (length banks) (record { begun = []; sight = record { known = logs_of banks; own = [] }; owed = [] })

-- the claims of the descriptors at the opening are all that is missing
abbrev pub OpeningIsFaithful : Type 0
OpeningIsFaithful =
    (plan : Parts) (count : ℕ) → AreSound plan (opening plan count)
    → IsFaithful plan count (record { begun = lengths_of (opening plan count); sight = record { known = logs_of (opening plan count); own = [] }; owed = claims_for (facts_of (opening plan count)) })

-- a pass that is split off sees what the root sees, with no entry of its own, and the root stays as it was
abbrev pub SplitsSeeTheSame : Type 0
SplitsSeeTheSame =
    (root left right : Pass Bank Parts Fact) → left.me.0 ≡ left_of root.me.0 → right.me.0 ≡ right_of root.me.0
    → (sight_of left ≡ sight_of root) × (left.me.0.begun ≡ root.me.0.begun) × (sight_of right ≡ record { known = (sight_of root).known; own = [] })

-- ---- a step

-- a table's step for an owed one is answered as its bank answers, and its home, and the log that it leaves, are those of the
-- owed step
abbrev pub StepsOfOwed : Type 0
StepsOfOwed =
    (plan : Parts) (old : Sight) (step : Owed) (answer : Answer) (new : Sight) (made : IsStep plan old (call_of step) answer new) → (answer ≡ answer_to made.met.log (call_of step))
    × Begins made.met.log (log_at old.known (home_for plan 64 step)) × (made.left.log ≡ log_after plan made.met.log step)
    × (new ≡ seen_after old (home_for plan 64 step) made.met.log (log_after plan made.met.log step))

-- a step is taken out at any place of the list, and at its end; a claim by a hint takes none out
abbrev pub ListsTakeOut : Type 0
ListsTakeOut =
    (owed : List Owed) (step : Owed) → ((n : ℕ) → slice_get owed n ≡ Some step → TakesOut owed step (remove owed n)) × ((rest : List Owed) → owed ≡ rest ++ step ∷ [] → TakesOut owed step rest) × TakesOut owed step owed

-- what is owed stays in the closure
abbrev pub DoneOwesClosed : Type 0
DoneOwesClosed =
    (plan : Parts) → IsPlanned plan → (old : Sight) (owed : List Owed) (step : Owed) (rest : List Owed) (new : Sight) (owed' : List Owed) → OwesClosed plan owed → TakesOut owed step rest → IsDone plan old step rest new owed' → OwesClosed plan owed'

-- a step that was done keeps a worker faithful
abbrev pub DoneKeepsFaith : Type 0
DoneKeepsFaith =
    (plan : Parts) → IsPlanned plan → (old : Sight) (owed : List Owed) (step : Owed) (rest : List Owed) (new : Sight) (owed' : List Owed) → TakesOut owed step rest → IsDone plan old step rest new owed' → KeepsFaith plan old owed new owed'

-- and so do any number of steps
abbrev pub WorkKeepsFaith : Type 0
WorkKeepsFaith = (plan : Parts) → IsPlanned plan → (first : Sight) (firsts : List Owed) (last : Sight) (lasts : List Owed) → Works plan first firsts last lasts → KeepsFaith plan first firsts last lasts

-- ---- the end

-- the workers owe nothing, what they know is the beginning of the banks' logs, and they answer for each entry
pub record AreDone (plan : Parts) (banks : List Bank) (workers : List Worker) : Type 0 where
  pub faithful : (w : Worker) → Contains workers w → IsFaithful plan (length banks) w
  pub nothing : (w : Worker) → Contains workers w → w.owed ≡ []
  pub begin : (w : Worker) → Contains workers w → (m : ℕ) (bank : Bank) → slice_get banks m ≡ Some bank → Begins bank.log (log_at w.sight.known m)
  pub answered : (m k : ℕ) (bank : Bank) (f : Fact) → slice_get banks m ≡ Some bank → slice_get bank.log k ≡ Some f → (w : Worker) × Contains workers w × Answers w m k

abbrev pub DoneIsSettled : Type 0
DoneIsSettled = (plan : Parts) (banks : List Bank) (workers : List Worker) → AreSound plan banks → AreDone plan banks workers → IsSettled plan banks

-- a sight to which passes were joined knows what each of them knew, and has exactly the entries that it and they had
abbrev pub JoinsHaveAll : Type 0
JoinsHaveAll =
    (first : Sight) (shares : List Share) (last : Sight) → Joins first shares last → ((share : Share) → Contains shares share → (m : ℕ) → Begins (log_at last.known m) (log_at share.sight.known m))
    × ((m k : ℕ) → Contains last.own (m, k) ↔ (Contains first.own (m, k) ⊎ ((share : Share) × Contains shares share × Contains share.sight.own (m, k))))

-- a pass that comes back is one more
abbrev pub JoinsAreOneMore : Type 0
JoinsAreOneMore =
    (first : Sight) (shares : List Share) (root other after : Pass Bank Parts Fact) (share : Share) → Joins first shares (sight_of root) → share.sight ≡ sight_of other → after.me.0 ≡ merged (both_of root.me.0 other.me.0)
    → ((m : ℕ) → Begins (log_at (sight_of after).known m) (log_at (sight_of root).known m) × Begins (log_at (sight_of after).known m) (log_at (sight_of other).known m))
    → Joins first (shares ++ share ∷ []) (sight_of after) × (after.me.0.begun ≡ root.me.0.begun)

-- no work is lost
abbrev pub WorkIsSettled : Type 0
WorkIsSettled = (plan : Parts) → IsPlanned plan → (jobs done : List Share) (root : Sight) (banks : List Bank) → AreSound plan (opening plan 64) → IsWork plan jobs done root banks → IsSettled plan banks

-- no step is missing exactly where the banks have what follows
abbrev pub NoneIsMissing : Type 0
NoneIsMissing = (plan : Parts) (banks : List Bank) → ((step : Owed) → ¬ (IsMissing plan banks step)) ↔ HaveWhatFollows plan banks

-- settled banks have recorded exactly the closure
abbrev pub SettledIsClosure : Type 0
SettledIsClosure = (plan : Parts) (banks : List Bank) → IsSettled plan banks → IsClosure plan (facts_of banks)
