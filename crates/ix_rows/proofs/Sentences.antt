-- What the rule of a row says, sentence by sentence.
use Rattle.std.proofs.Common.{◌⊎◌, ℕ, ◌-◌, ◌+◌, ◌<◌, ◌≤◌, List, length, Some, ap, ◌∙◌, ⊎_elim, inl, inr, arith}
use Rattle.ix_rows.specs.Logs.{log_at}
use Rattle.ix_rows.specs.RuleLaws.{TakenHaveHolders, FreeAreKept, LiveNameTopic, KnownBegin, OwnOnce}
use Rattle.ix_rows.proofs.Logs.{times_in, times_out}

module _ {T X E : Type 0} (fact : T → ℕ → X → Type 0) (log : X → List E) where
  pub taken_have_holders : TakenHaveHolders fact log
  taken_have_holders topic first s r m near = (
    (λ z. let h = r.taken m near z in (h.0, h.1, h.2, h.3, λ i w e p. r.one i h.0 w h.1 m e h.2 p h.3)),
    (λ h. ((r.fits h.0 h.1 h.2).0 m h.3).1),
  )

  pub free_are_kept : FreeAreKept fact log
  free_are_kept topic first s r m near idle = r.free m near idle

  pub live_name_topic : LiveNameTopic fact log
  live_name_topic topic first s r j v e live = let t = (r.fits j v e).1 live.1.0 live.1.1 in (live.1.1 ∙ ap Some t.0, t.1)

  pub known_begin : KnownBegin fact log
  known_begin topic first s r j v e m = (((r.fits j v e).3 m).0, λ p. ((r.fits j v e).0 m p).3)

  pub own_once : OwnOnce fact log
  own_once topic first s r m k =
      let b : ℕ = length (log_at first m) in let l : ℕ = length (r.logs m) in let o = r.owned m k in let g = r.grown m in (
        (λ low high. o ∙ times_in m k b (l - b) low (omega arith)),
        (λ outside. let beyond : (k < b) ⊎ (b + (l - b) ≤ k) = ⊎_elim (λ (low : k < b). inl low) (λ (high : l ≤ k). inr (omega arith)) outside in o ∙ times_out m k b (l - b) beyond),
      )
