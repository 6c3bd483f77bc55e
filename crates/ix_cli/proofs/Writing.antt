-- What is answered where something goes to the output.
use Rattle.std.proofs.Common.{◌≡◌, ◌≢◌, ◌⊎◌, ◌≤◌, sym, ◌∙◌, subst, ℕ, List, [], take, Option, None, Some, IfSome, arith}
use Rattle.std.specs.Io.KnownBytes.{Appends, Keeps}
use Rattle.std.proofs.KnownBytes.{Appends-nil, Appends-kept}
use mathlib.Core.Logic.{inl, inr}
use Rattle.ix_model.specs.Answers.Outcome.{output_of}
use Rattle.ix_edge.specs.Causes.{Rose}
use Rattle.ix_edge.specs.Told.{Told}
use Rattle.ix_cli.specs.declared.answer.Answer.TheVariants as answer
use Rattle.ix_cli.specs.declared.output.Output.{Output}
use Rattle.ix_cli.specs.Answered.{IsAnswered, IsCutOff, IsMessage}
use Rattle.ix_cli.specs.Causes.{IsCaused}
use Rattle.ix_cli.specs.Contents.{HasBytes}
use Rattle.ix_cli.specs.Says.{Says}
use Rattle.ix_cli.specs.Shown.{ShowsReply}
use Rattle.ix_cli.specs.Written.{IsWritten}
use Rattle.ix_cli.proofs.Caused.{reply_caused}

-- where the table's answer was given, its status has its cause
pub answered_caused : (words : List (List ℕ)) (told : Option Told) (old new : Option (List ℕ)) (status : ℕ) (says : List ℕ → Type 0) → IsAnswered words told old new status says → IfSome told (λ files. IsCaused words files status)
answered_caused words None old new status says h = tt
answered_caused words (Some files) old new status says (o, r, e, a, s) = subst (IsCaused words files) (sym e) (reply_caused words files o r)

-- bytes that stay grow by nothing
kept_grows : (old new : Option (List ℕ)) → Keeps old new → Appends old new []
kept_grows old new k = Appends-kept old old new [] (Appends-nil old) k

-- what was written whole is the table's answer
pub written_answered : (words : List (List ℕ)) (old new mo mn : Option (List ℕ)) (out_before out_now before now : ℕ) (output : Output) (told : Option Told) (status : ℕ) → IfSome told (λ files. ShowsReply words files output) →
    IsWritten old new out_before out_now mo mn before now output status → status ≢ 8 → status ≢ 9 → IsAnswered words told old new status (Says mo mn before now)
written_answered words old new mo mn out_before out_now before now output None status h w b c = tt
written_answered words old new mo mn out_before out_now before now output (Some files) status (o, r, s) (inl (e, a, k)) b c =
    (o, r, e ∙ s.status, a (output_of o) s.bytes, subst (Says mo mn before now) (sym s.silent) (λ n. kept_grows mo mn k))
written_answered words old new mo mn out_before out_now before now output (Some files) status h (inr (inl w)) b c = absurd (b w.0)
written_answered words old new mo mn out_before out_now before now output (Some files) status h (inr (inr w)) b c = absurd (c w.0)

-- figures are written whole, cut off, or not at all for want of memory
pub written_sample : (old new mo mn : Option (List ℕ)) (out_before out_now before now : ℕ) (output : Output) (status : ℕ) → IsWritten old new out_before out_now mo mn before now output status → output.status ≡ 0 →
    (status ≡ 0) ⊎ ((status ≡ 8) ⊎ (status ≡ 9))
written_sample old new mo mn out_before out_now before now output status (inl w) e = inl (w.0 ∙ e)
written_sample old new mo mn out_before out_now before now output status (inr (inl w)) e = inr (inl w.0)
written_sample old new mo mn out_before out_now before now output status (inr (inr w)) e = inr (inr w.0)

module _ (old new mo mn : Option (List ℕ)) (out_before out_now before now : ℕ) (output : Output) (status : ℕ) (written : IsWritten old new out_before out_now mo mn before now output status) where
  abbrev CutOff : Type 0
  CutOff = Rose out_before out_now × ((bytes : List ℕ) → HasBytes output.content bytes → (n : ℕ) × Appends old new (take n bytes))

  module _ (small : (output.status ≡ 0) ⊎ (output.status ≡ 1)) where
    -- an output has no status of a refusal
    pub written_status : (status ≤ 1) ⊎ (8 ≤ status)
    written_status = by_way written small
      where
        by_way : IsWritten old new out_before out_now mo mn before now output status → (output.status ≡ 0) ⊎ (output.status ≡ 1) → (status ≤ 1) ⊎ (8 ≤ status)
        by_way (inl w) (inl e) = inl (omega (arith, w.0, e))
        by_way (inl w) (inr e) = inl (omega (arith, w.0, e))
        by_way (inr (inl w)) e = inr (omega (arith, w.0))
        by_way (inr (inr w)) e = inr (omega (arith, w.0))

    -- an output that was cut off has the status of a fault of the output
    written_cut : status ≡ 8 → CutOff
    written_cut eight = by_way written small
      where
        by_way : IsWritten old new out_before out_now mo mn before now output status → (output.status ≡ 0) ⊎ (output.status ≡ 1) → CutOff
        by_way (inl w) (inl e) = absurd (omega (arith, w.0, e, eight))
        by_way (inl w) (inr e) = absurd (omega (arith, w.0, e, eight))
        by_way (inr (inl w)) e = (w.1, w.2)
        by_way (inr (inr w)) e = absurd (omega (arith, w.0, eight))

    pub written_rose : status ≡ 8 → Rose out_before out_now
    written_rose eight = (written_cut eight).0

    pub written_front : (words : List (List ℕ)) (told : Option Told) → IfSome told (λ files. ShowsReply words files output) → status ≡ 8 → IsCutOff words told old new
    written_front words None h eight = tt
    written_front words (Some files) (o, r, s) eight = let c = (written_cut eight).1 (output_of o) s.bytes in (o, r, s.some, c.0, c.1)

    -- nothing is written where memory ran out
    pub written_nothing : status ≢ 0 → status ≢ 1 → status ≢ 8 → Keeps old new
    written_nothing a b c = by_way written small
      where
        by_way : IsWritten old new out_before out_now mo mn before now output status → (output.status ≡ 0) ⊎ (output.status ≡ 1) → Keeps old new
        by_way (inl w) (inl e) = absurd (a (w.0 ∙ e))
        by_way (inl w) (inr e) = absurd (b (w.0 ∙ e))
        by_way (inr (inl w)) e = absurd (c w.0)
        by_way (inr (inr w)) e = w.1

    -- a line is said of what was not written whole
    pub written_said : IsMessage status (Says mo mn before now)
    written_said = by_way written small
      where
        by_way : IsWritten old new out_before out_now mo mn before now output status → (output.status ≡ 0) ⊎ (output.status ≡ 1) → IsMessage status (Says mo mn before now)
        by_way (inl w) (inl e) = inl (inl (w.0 ∙ e), λ n. kept_grows mo mn w.2)
        by_way (inl w) (inr e) = inl (inr (w.0 ∙ e), λ n. kept_grows mo mn w.2)
        by_way (inr (inl w)) e = inr (answer.Write, w.0, w.3)
        by_way (inr (inr w)) e = inr (answer.Memory, w.0, w.2)
