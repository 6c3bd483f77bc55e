-- What is promised of a run: of its status, and of what stands outside of it before and after.
-- Source: this project's own.
use Rattle.std.specs.Prelude.{◌≡◌, ◌≢◌, ◌⊎◌, ◌≤◌, ℕ, List, Option, IfSome}
use Rattle.std.specs.Io.KnownBytes.{Keeps}
use Rattle.ix_edge.specs.Causes.{Rose}
use Rattle.ix_edge.specs.Told.{Told}
use Rattle.ix_model.specs.Answers.CommandLine.{sample, IsCommand, HasNoForm}
use Rattle.ix_cli.specs.Answered.{IsAnswered, IsCutOff, IsMessage}
use Rattle.ix_cli.specs.Causes.{IsCaused}
use Rattle.ix_cli.specs.Lines.{read_line}
use Rattle.ix_cli.specs.Named.{Names}
use Rattle.ix_cli.specs.Says.{Says}
use Rattle.ix_cli.specs.Unread.{IsUnread}

-- what stands outside of a run at one moment
pub record Outside : Type 0 where
  -- what the files tell of what they hold, and how many loads of each name have failed
  pub told : Option Told
  pub unread : List ℕ → ℕ
  -- what the output tells of what was written, and how many puts have failed
  pub written : Option (List ℕ)
  pub unwritten : ℕ
  -- the same of the messages
  pub said : Option (List ℕ)
  pub unsaid : ℕ

-- the words were run with this status, from the old outside to the new
pub record IsRun (asked : List (List ℕ)) (old new : Outside) (status : ℕ) : Type 0 where
  -- At every status but 7, 8 and 9, status, output and message are those of the table of answers, where the files tell what they hold.
  pub answered : status ≢ 7 → status ≢ 8 → status ≢ 9 → IsAnswered asked old.told old.written new.written status (Says old.said new.said old.unsaid new.unsaid)
  -- They are so too where no count of a file that the words name rose, nor that of the output, and memory did not run out.
  pub complete : ((name : List ℕ) → Names asked name → ¬ (Rose (old.unread name) (new.unread name))) → ¬ (Rose old.unwritten new.unwritten) → status ≢ 9 →
      IsAnswered asked old.told old.written new.written status (Says old.said new.said old.unsaid new.unsaid)
  -- At these statuses each from 0 to 6 comes exactly where its cause holds.
  pub causes : status ≢ 7 → status ≢ 8 → status ≢ 9 → IfSome old.told (λ files. IsCaused asked files status)
  -- The figures of the sample are never refused: neither its grammar nor its text is.
  pub sample : (lines workers : ℕ) → IsCommand asked (sample lines workers) → (status ≡ 0) ⊎ ((status ≡ 8) ⊎ (status ≡ 9))
  -- Words without a form are refused as such, unless memory runs out.
  pub no_form : HasNoForm asked → (status ≡ 2) ⊎ (status ≡ 9)
  -- No other words are.
  pub words : status ≡ 2 → HasNoForm asked
  -- At status 7 the count of a file's name rose, the file was the next to be read, and the line names it.
  pub read : status ≡ 7 → (name : List ℕ) × IsUnread asked old.told old.unread new.unread name × Says old.said new.said old.unsaid new.unsaid (read_line name)
  -- At status 8 the count of the output rose.
  pub write : status ≡ 8 → Rose old.unwritten new.unwritten
  -- Then the front of what the table has was written.
  pub cut_off : status ≡ 8 → IsCutOff asked old.told old.written new.written
  -- At every status but 0, 1 and 8 nothing was written.
  pub nothing : status ≢ 0 → status ≢ 1 → status ≢ 8 → Keeps old.written new.written
  -- The message is the line of an answer that has this status.
  pub message : IsMessage status (Says old.said new.said old.unsaid new.unsaid)
  -- The files tell what they told.
  pub same : new.told ≡ old.told
  -- No count of theirs falls.
  pub later : (name : List ℕ) → old.unread name ≤ new.unread name
