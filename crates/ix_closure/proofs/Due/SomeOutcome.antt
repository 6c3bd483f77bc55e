-- A step whose slot is there brings a list of steps, and an owed step can be done.
use Rattle.std.proofs.Common.{◌≡◌, ℕ, ◌+◌, ◌<◌, ◌≤◌, List, [], ◌∷◌, ◌++◌, Option, None, Some, length, remove, slice_get, slice_set, get_or, take, drop, refl, sym, ◌∙◌, subst, ◌⊎◌, inl, inr, arith}
use Rattle.std.proofs.lemmas.Option.{slice_get-get_or}
use Rattle.ix_model.specs.Closure.Useful.{sub_at}
use Rattle.ix_model.specs.declared.rules.Sym.{Sym}
use Rattle.ix_model.specs.declared.rules.Sym.TheVariants as sy
use Rattle.ix_model.specs.declared.rules.Terminal.{Terminal}
use Rattle.ix_model.specs.declared.rules.Terminal.TheVariants as terminal
use Rattle.ix_model.specs.declared.char_set.CharRange.{CharRange}
use Rattle.ix_model.specs.Expansion.FlatDerives.{TerminalMatches}
use Rattle.ix_model.specs.Expansion.Numbered.{terminal_at}
use Rattle.ix_model.specs.Expansion.Parts.{Parts}
use Rattle.ix_model.specs.Expansion.Planned.{IsPlanned}
use Rattle.ix_model.specs.Matching.Ranges.{IsInRanges}
use Rattle.ix_model.specs.Expansion.Slots.{info_at, sym_after}
use Rattle.ix_model.specs.Matching.Terminals.{StandsAt}
use Rattle.ix_model.proofs.Decide.{Answered, both, either}
use Rattle.ix_model.proofs.Standing.{stands}
use Rattle.ix_cluster.specs.declared.answers.Claimed.{Claimed}
use Rattle.ix_cluster.specs.declared.answers.Claimed.TheVariants.{Mine, Taken, Unknown}
use Rattle.ix_cluster.specs.declared.fact.Fact.{Fact}
use Rattle.ix_cluster.specs.Homes.{home_of}
use Rattle.ix_cluster.specs.Seen.{Bank}
use Rattle.ix_cluster.specs.Steps.{claim_answer, arrival_answer}
use Rattle.ix_cluster.proofs.Members.{nth_has}
use Rattle.ix_closure.specs.declared.owed.Owed.{Owed}
use Rattle.ix_closure.specs.declared.owed.Owed.TheVariants.{Claim, Edge, End, Arrive}
use Rattle.ix_closure.specs.Balance.{IsBalanced}
use Rattle.ix_closure.specs.Due.{IsRecorded}
use Rattle.ix_closure.specs.Events.{Event, bank_after, home_for}
use Rattle.ix_closure.specs.Follows.{FollowsDesc, FollowsClaim, Follows, fact_of, opened, met_ends, met_edges, fresh_claim}
use Rattle.ix_closure.specs.Laws.{HasMemory}
use Rattle.ix_closure.specs.Ready.{HasSlot}
use Rattle.ix_closure.specs.Seen.{State}
use Rattle.ix_closure.proofs.Due.DueClosed.{due_closed}
use Rattle.ix_closure.proofs.Due.DescriptorSteps.{reads_follows, passes_term, stops_term}
use Rattle.ix_closure.proofs.Due.Readiness.{step_slot}
use Rattle.ix_closure.proofs.Balancing.RecordedFacts.{recorded_closed}

-- ---- a terminal stands there or not

in_ranges : (c : ℕ) (ranges : List CharRange) → Answered (IsInRanges c ranges)
in_ranges c [] = inr (λ h. h)
in_ranges c (r ∷ ranges) = either ((r.low ≤ c) × (c ≤ r.high)) (IsInRanges c ranges) (both (r.low ≤ c) (c ≤ r.high) (grind arith) (grind arith)) (in_ranges c ranges)

matches : (text : List ℕ) (t : Terminal) (p : ℕ) → ((e : ℕ) × TerminalMatches text t p e) ⊎ ((e : ℕ) → TerminalMatches text t p e → ⊥)
matches text (terminal.Lit cs) p = elim (stands text cs p (p + length cs)) [
  | inl h ↦ inl (p + length cs, h)
  | inr none ↦ inr (λ e h. none (subst (StandsAt text cs p) (sym h.0) h))
]
matches text (terminal.Set ranges) p = by (take 1 (drop p text)) refl
  where
    by : (xs : List ℕ) → take 1 (drop p text) ≡ xs → ((e : ℕ) × TerminalMatches text (terminal.Set ranges) p e) ⊎ ((e : ℕ) → TerminalMatches text (terminal.Set ranges) p e → ⊥)
    by [] w = inr (λ e h. absurd (cc (sym w ∙ h.2.2)))
    by (c ∷ xs) w = elim (both (IsInRanges c ranges) (StandsAt text (c ∷ []) p (p + 1)) (in_ranges c ranges) (stands text (c ∷ []) p (p + 1))) [
      | inl h ↦ inl (p + 1, (c, h.0, h.1))
      | inr none ↦ inr (λ e h. none (here e h))
    ]
      where
        here : (e : ℕ) → TerminalMatches text (terminal.Set ranges) p e → IsInRanges c ranges × StandsAt text (c ∷ []) p (p + 1)
        here e h =
            let same : h.0 ≡ c = cc (sym w ∙ h.2.2) in
            let end : e ≡ p + 1 = omega (arith, h.2.0) in
            (subst (λ x. IsInRanges x ranges) same h.1, subst (λ z. StandsAt text (c ∷ []) p z) end (subst (λ x. StandsAt text (x ∷ []) p e) same h.2))

module _ (plan : Parts) (planned : IsPlanned plan) where
  -- ---- a step brings a list

  -- by the symbol behind the dot
  desc_brings : (s l p : ℕ) → s < length plan.slots → (more : List Owed) × FollowsDesc plan s l p more
  desc_brings s l p h = by (sym_after plan s) refl
    where
      by : (o : Option Sym) → sym_after plan s ≡ o → (more : List Owed) × FollowsDesc plan s l p more
      by None e = (End (info_at plan s).head l p ∷ [], reads_follows plan planned s l p None (End (info_at plan s).head l p ∷ []) h e refl)
      by (Some (sy.Rule r mark)) e = (Edge r p s l ∷ [], reads_follows plan planned s l p (Some (sy.Rule r mark)) (Edge r p s l ∷ []) h e refl)
      by (Some (sy.Insert n)) e = (Arrive (sub_at (s + 1) l p p) ∷ [], reads_follows plan planned s l p (Some (sy.Insert n)) (Arrive (sub_at (s + 1) l p p) ∷ []) h e refl)
      by (Some (sy.Term t shown)) e = elim (matches plan.text (terminal_at plan.rules t) p) [
        | inl m ↦ (Arrive (sub_at (s + 1) l p m.0) ∷ [], passes_term plan planned s l p t shown (s + 1) m.0 h e there m.1 refl)
        | inr none ↦ ([], stops_term plan planned s l p t shown h e none)
      ]
        where
          there : t < length plan.rules.terminals
          there = planned.symbols (info_at plan s).head (info_at plan s).alt (info_at plan s).dot (sy.Term t shown) e

  claim_brings : (claimed : Claimed) (s l p : ℕ) → s < length plan.slots → (more : List Owed) × FollowsClaim plan claimed s l p more
  claim_brings Mine s l p h = desc_brings s l p h
  claim_brings Taken s l p h = ([], refl)
  claim_brings Unknown s l p h = ([], refl)

  pub follows_there : (log : List Fact) (step : Owed) → HasSlot plan step → (more : List Owed) × Follows plan log step more
  follows_there log (Claim s l p) h = claim_brings (claim_answer log s l p) s l p h
  follows_there log (Edge r k s l) h = (opened plan log r k s l ++ met_ends log r k s l, refl)
  follows_there log (End r k e) h = (met_edges log r k e, refl)
  follows_there log (Arrive sub) h = (fresh_claim (arrival_answer log sub) sub, refl)

  -- ---- an owed step can be done

  pub event_there : (old : State) → IsBalanced plan old → (n : ℕ) (step : Owed) → slice_get old.owed n ≡ Some step → HasMemory plan old.banks step → (new : State) × Event plan old n new
  event_there old balanced n step taken memory = (after, event)
    where
      no_bank : Bank
      no_bank = record { log = []; handed = 0 }

      m : ℕ
      m = home_for plan (length old.banks) step

      bank : Bank
      bank = get_or old.banks m no_bank

      there : slice_get old.banks m ≡ Some bank
      there = slice_get-get_or old.banks m no_bank (below (fact_of step))
        where
          below : (f : Fact) → home_of plan (length old.banks) f < length old.banks
          below f = grind (arith, balanced.sound.some)

      brings : (more : List Owed) × Follows plan bank.log step more
      brings = follows_there bank.log step (step_slot plan planned step (due_closed plan (IsRecorded old.banks) (recorded_closed plan old.banks balanced.sound) step (balanced.caused step (nth_has old.owed n step taken))))

      after : State
      after = record { banks = slice_set old.banks m (bank_after plan bank step); owed = remove old.owed n ++ brings.0 }

      event : Event plan old n after
      event = record { step = step; taken = taken; bank = bank; there = there; done = refl; more = brings.0; follows = brings.1; owed = refl; bounded = memory bank there }
