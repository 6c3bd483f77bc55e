-- A step keeps a worker faithful.
use Rattle.std.proofs.Common.{◌≡◌, ◌≢◌, ◌⊎◌, ℕ, ◌<◌, ◌≤◌, List, [], ◌∷◌, ◌++◌, length, take, Contains, Some, remove, slice_get, refl, sym, ap, ◌∙◌, subst, inl, inr, arith}
use Rattle.std.proofs.lemmas.Bool.{cases_eq}
use Rattle.std.proofs.lemmas.List.Elements.{Contains-append_left, Contains-append_right, Contains-append_cases, Contains-push_cases}
use Rattle.ix_model.specs.Closure.Useful.{sub_at}
use Rattle.ix_model.specs.Expansion.Parts.{Parts}
use Rattle.ix_model.specs.Expansion.Planned.{IsPlanned}
use Rattle.ix_cluster.specs.declared.fact.Fact.{Fact}
use Rattle.ix_cluster.specs.declared.fact.Fact.TheVariants as fact
use Rattle.ix_cluster.specs.BankSteps.{Answer}
use Rattle.ix_cluster.specs.ClosedFacts.{IsInClosed}
use Rattle.ix_cluster.specs.StepAnswers.{answer_to}
use Rattle.ix_cluster.proofs.Members.{one_has, none_has, first_has, nth_has}
use Rattle.ix_cluster.proofs.StepCases.{step_is, step_appends}
use Rattle.ix_closure.specs.declared.owed.Owed.{Owed}
use Rattle.ix_closure.specs.declared.owed.Owed.TheVariants.{Claim, Edge, End, Arrive}
use Rattle.ix_closure.specs.Events.{call_of, home_for, log_after}
use Rattle.ix_closure.specs.Follows.{fact_of, Follows, FollowsDesc, passes, stops, inserts, calls, ends}
use Rattle.ix_closure.proofs.Lists.ListMembers.{taken_or_left, left_was}
use Rattle.ix_rows.specs.Beginnings.{Begins}
use Rattle.ix_rows.specs.Logs.{log_at}
use Rattle.ix_rows.proofs.Logs.{begins_all, begins_further, begins_length}
use Rattle.ix_table.specs.Calls.{place_for}
use Rattle.ix_table.specs.Sights.{Sight, seen_after}
use Rattle.ix_table.specs.TableSteps.{IsStep}
use Rattle.ix_table.proofs.Changes.{changes}
use Rattle.ix_settled_laws.specs.Brought.{IsBrought}
use Rattle.ix_settled_laws.specs.Covered.{Inside, Covered}
use Rattle.ix_settled_laws.specs.Done.{IsDone, Works, begins, goes_on}
use Rattle.ix_settled_laws.specs.Faithful.{AtHome, IsFaithful, KeepsFaith}
use Rattle.ix_settled_laws.specs.Owing.{OwesClosed}
use Rattle.ix_settled_laws.specs.Taking.{TakesOut}
use Rattle.ix_settled_laws.specs.Workers.{Worker, Answers, IsKnown}
use Rattle.ix_settled_laws.proofs.Entries.{begins_has, entry_same, before_same, entry_behind, before_has}
use Rattle.ix_settled_laws.proofs.MoreClosed.{records, HasDesc, more_closed}
use Rattle.ix_settled_laws.proofs.NewEntries.{brought_more, step_grows}

-- ---- what is left of a list

pub taken_at : (owed : List Owed) (step : Owed) (n : ℕ) → slice_get owed n ≡ Some step → TakesOut owed step (remove owed n)
taken_at owed step n e = (λ x h. taken_or_left owed n step x e h, λ x h. left_was owed n x h)

pub taken_last : (owed : List Owed) (step : Owed) (rest : List Owed) → owed ≡ rest ++ step ∷ [] → TakesOut owed step rest
taken_last owed step rest e = (
  λ x h. elim (Contains-push_cases rest step x (subst (λ (l : List Owed). Contains l x) e h)) [ inl o ↦ inr o | inr n ↦ inl n ],
  λ x h. subst (λ (l : List Owed). Contains l x) (sym e) (Contains-append_left rest (step ∷ []) x h),
)

pub taken_none : (owed : List Owed) (step : Owed) → TakesOut owed step owed
taken_none owed step = (λ x h. inr h, λ x h. h)

-- ---- what brings a claim

-- a claimed descriptor brings no claim
no_claim : (plan : Parts) (s l p a b c : ℕ) (more : List Owed) → FollowsDesc plan s l p more → Contains more (Claim a b c) → ⊥
no_claim plan s l p a b c more (passes x after e next t) h = absurd (cc (one_has (Arrive (sub_at after l p e)) (Claim a b c) h))
no_claim plan s l p a b c more (stops t shown after next none) h = none_has (Claim a b c) h
no_claim plan s l p a b c more (inserts n after next) h = absurd (cc (one_has (Arrive (sub_at after l p p)) (Claim a b c) h))
no_claim plan s l p a b c more (calls r after mark next) h = absurd (cc (one_has (Edge r p s l) (Claim a b c) h))
no_claim plan s l p a b c more (ends r last) h = absurd (cc (one_has (End r l p) (Claim a b c) h))

-- a fact that brings a claim is its descriptor
brings_claim : (plan : Parts) (before : List Fact) (f : Fact) (a b c : ℕ) → IsBrought plan before f (Claim a b c) → f ≡ fact.Desc a b c
brings_claim plan before (fact.Called r k) a b c h = absurd h
brings_claim plan before (fact.Part sub) a b c h = absurd h
brings_claim plan before (fact.Desc s l p) a b c h = cc h
brings_claim plan before (fact.Claim s l p) a b c h = absurd (no_claim plan s l p a b c (Claim a b c ∷ []) h (first_has (Claim a b c) []))
brings_claim plan before (fact.Edge r k s l) a b c h = absurd (cc (h.5))
brings_claim plan before (fact.End r k e) a b c h = absurd (cc (h.6))

-- the descriptor that a claim follows from is known at the claim's home, so a log that begins with what is known there has it
desc_there : (plan : Parts) (sight : Sight) (log : List Fact) (step : Owed) (m : ℕ) (f : Fact) (before : List Fact) → AtHome plan 64 sight → Begins log (log_at sight.known (place_for plan (call_of step)))
    → Contains (log_at sight.known m) f → IsBrought plan before f step → HasDesc log step
desc_there plan sight log (Claim s l p) m f before homes begin there brought =
    let desc : Contains (log_at sight.known m) (fact.Desc s l p) = subst (Contains (log_at sight.known m)) (brings_claim plan before f s l p brought) there in
    begins_has log (log_at sight.known (place_for plan (call_of (Claim s l p)))) (fact.Desc s l p) begin
    (subst (λ (j : ℕ). Contains (log_at sight.known j) (fact.Desc s l p)) (sym (homes m (fact.Desc s l p) desc)) desc)
desc_there plan sight log (Edge r k s l) m f before homes begin there brought = tt
desc_there plan sight log (End r k e) m f before homes begin there brought = tt
desc_there plan sight log (Arrive sub) m f before homes begin there brought = tt

-- ---- a step of a table

-- its place is the home of the owed step
home_is : (plan : Parts) (step : Owed) → place_for plan (call_of step) ≡ home_for plan 64 step
home_is plan (Claim s l p) = refl
home_is plan (Edge r k s l) = refl
home_is plan (End r k e) = refl
home_is plan (Arrive sub) = refl

module _ (plan : Parts) (old : Sight) (step : Owed) (answer : Answer) (new : Sight) (made : IsStep plan old (call_of step) answer new) where
  leaves : made.left.log ≡ log_after plan made.met.log step
  leaves = (step_is plan made.met.log (call_of step) answer made.left.log made.step).1

  pub step_of_owed : (answer ≡ answer_to made.met.log (call_of step)) × Begins made.met.log (log_at old.known (home_for plan 64 step)) × (made.left.log ≡ log_after plan made.met.log step)
      × (new ≡ seen_after old (home_for plan 64 step) made.met.log (log_after plan made.met.log step))
  step_of_owed = (
    (step_is plan made.met.log (call_of step) answer made.left.log made.step).0,
    subst (λ (m : ℕ). Begins made.met.log (log_at old.known m)) (home_is plan step) made.begins,
    leaves,
    made.now ∙ (λ i. seen_after old (home_is plan step i) made.met.log (leaves i)),
  )

  true_after : (f : Fact) → Contains (log_after plan made.met.log step) f → IsInClosed plan f
  true_after f h = made.sound_left.true_facts.closed f (subst (λ (l : List Fact). Contains l f) (sym leaves) h)

  module _ (planned : IsPlanned plan) (owed rest more : List Owed) (taken : TakesOut owed step rest) (follows : Follows plan made.met.log step more) where
    pub owes_closed : OwesClosed plan owed → OwesClosed plan (rest ++ more)
    owes_closed closed x h = elim (Contains-append_cases rest more x h) [
      | inl o ↦ closed x (taken.1 x o)
      | inr n ↦ more_closed plan planned made.met.log step more true_after follows x n
    ]

    module _ (begun : List ℕ) (faithful : IsFaithful plan 64 (record { begun = begun; sight = old; owed = owed })) where
      abbrev was : Worker
      was = record { begun = begun; sight = old; owed = owed }

      abbrev is : Worker
      is = record { begun = begun; sight = new; owed = rest ++ more }

      changed : (log_at new.known (place_for plan (call_of step)) ≡ made.left.log) × ((m : ℕ) → m ≢ place_for plan (call_of step) → log_at new.known m ≡ log_at old.known m)
      changed = let c = changes plan old (call_of step) answer new made in (c.0, c.1)

      grown : (j : ℕ) → Begins (log_at new.known j) (log_at old.known j)
      grown j = elim (cases_eq j (place_for plan (call_of step))) [
        | inl e ↦ subst (λ (i : ℕ). Begins (log_at new.known i) (log_at old.known i)) (sym e) (subst (λ (z : List Fact). Begins z (log_at old.known (place_for plan (call_of step)))) (sym changed.0) (begins_further made.left.log made.met.log (log_at old.known (place_for plan (call_of step))) (step_appends plan made.met.log (call_of step) answer made.left.log made.step) made.begins))
        | inr o ↦ subst (λ (z : List Fact). Begins z (log_at old.known j)) (sym (changed.1 j o)) (begins_all (log_at old.known j))
      ]

      still_known : (f : Fact) → IsKnown old f → IsKnown new f
      still_known f (m, h) = (m, begins_has (log_at new.known m) (log_at old.known m) f (grown m) h)

      -- an entry is an old one, or one of those that the step appended
      old_or_new : (j k : ℕ) → Answers is j k → Answers was j k ⊎ ((j ≡ place_for plan (call_of step)) × (length made.met.log ≤ k) × (k < length made.left.log))
      old_or_new j k (inl first) = inl (inl first)
      old_or_new j k (inr c) = elim (((changes plan old (call_of step) answer new made).2 j k).0 c) [ inl o ↦ inl (inr o) | inr n ↦ inr n ]

      inside : Inside is
      inside j k a = elim (old_or_new j k a) [
        | inl o ↦ let low = faithful.inside j k o in let longer = begins_length (log_at new.known j) (log_at old.known j) (grown j) in omega (arith, low, longer)
        | inr n ↦ subst (λ (i : ℕ). k < length (log_at new.known i)) (sym n.0) (subst (λ (l : List Fact). k < length l) (sym changed.0) n.2)
      ]

      old_covered : (j k : ℕ) (f : Fact) (x : Owed) → Answers was j k → slice_get (log_at new.known j) k ≡ Some f → IsBrought plan (take k (log_at new.known j)) f x → Contains (rest ++ more) x ⊎ IsKnown new (fact_of x)
      old_covered j k f x a e brought =
          let low = faithful.inside j k a in
          let e' : slice_get (log_at old.known j) k ≡ Some f = sym (entry_same (log_at new.known j) (log_at old.known j) k (grown j) low) ∙ e in
          let brought' : IsBrought plan (take k (log_at old.known j)) f x = subst (λ (l : List Fact). IsBrought plan l f x) (before_same (log_at new.known j) (log_at old.known j) k (grown j) low) brought in
          elim (faithful.covered j k f x a e' brought') [
            | inr already ↦ inr (still_known (fact_of x) already)
            | inl o ↦ elim (taken.0 x o) [
              | inr left ↦ inl (Contains-append_left rest more x left)
              | inl same ↦
                  let there = desc_there plan old made.met.log step j f (take k (log_at old.known j)) faithful.at_home made.begins (nth_has (log_at old.known j) k f e') (subst (IsBrought plan (take k (log_at old.known j)) f) (sym same) brought') in
                  inr (place_for plan (call_of step), subst (λ (l : List Fact). Contains l (fact_of x)) (sym (changed.0 ∙ leaves)) (subst (λ (y : Owed). Contains (log_after plan made.met.log step) (fact_of y)) same (records plan made.met.log step there)))
            ]
          ]

      new_covered : (k : ℕ) (f : Fact) (x : Owed) → length made.met.log ≤ k → slice_get (log_after plan made.met.log step) k ≡ Some f → IsBrought plan (take k (log_after plan made.met.log step)) f x → Contains (rest ++ more) x
      new_covered k f x low e brought =
          let all = log_after plan made.met.log step in
          let g = step_grows plan planned made.met.log step more follows in
          let behind = entry_behind made.met.log g.0 k f low (ap (λ (l : List Fact). slice_get l k) (sym g.1) ∙ e) in
          Contains-append_right rest more x (g.2 f behind x (brought_more plan (take k all) all f x (λ h i. before_has k all h i) brought))

      covered : Covered plan is
      covered j k f x a e brought = elim (old_or_new j k a) [
        | inl o ↦ old_covered j k f x o e brought
        | inr n ↦
            let at : log_at new.known j ≡ log_after plan made.met.log step = ap (log_at new.known) n.0 ∙ changed.0 ∙ leaves in
            inl (new_covered k f x n.1 (ap (λ (l : List Fact). slice_get l k) (sym at) ∙ e) (subst (λ (l : List Fact). IsBrought plan (take k l) f x) at brought))
      ]

      at_home : AtHome plan 64 new
      at_home j f h = elim (cases_eq j (place_for plan (call_of step))) [
        | inl here ↦ made.sound_left.at_home f (subst (λ (l : List Fact). Contains l f) (ap (log_at new.known) here ∙ changed.0) h) ∙ sym here
        | inr o ↦ faithful.at_home j f (subst (λ (l : List Fact). Contains l f) (changed.1 j o) h)
      ]

      pub stays_faithful : IsFaithful plan 64 (record { begun = begun; sight = new; owed = rest ++ more })
      stays_faithful = record { inside = inside; covered = covered; at_home = at_home; closed = owes_closed faithful.closed }

-- ---- a step that was done, and any number of them

module _ (plan : Parts) (planned : IsPlanned plan) where
  pub done_closed : (old : Sight) (owed : List Owed) (step : Owed) (rest : List Owed) (new : Sight) (owed' : List Owed) → OwesClosed plan owed → TakesOut owed step rest → IsDone plan old step rest new owed' → OwesClosed plan owed'
  done_closed old owed step rest new owed' closed taken done = subst (OwesClosed plan) (sym done.now) (owes_closed plan old step done.answer new done.made planned owed rest done.more taken done.follows closed)

  pub done_keeps : (old : Sight) (owed : List Owed) (step : Owed) (rest : List Owed) (new : Sight) (owed' : List Owed) → TakesOut owed step rest → IsDone plan old step rest new owed' → KeepsFaith plan old owed new owed'
  done_keeps old owed step rest new owed' taken done begun faithful =
      subst (λ (z : List Owed). IsFaithful plan 64 (record { begun = begun; sight = new; owed = z })) (sym done.now)
      (stays_faithful plan old step done.answer new done.made planned owed rest done.more taken done.follows begun faithful)

  pub work_keeps : (first : Sight) (firsts : List Owed) (last : Sight) (lasts : List Owed) → Works plan first firsts last lasts → KeepsFaith plan first firsts last lasts
  work_keeps first firsts last lasts begins begun faithful = faithful
  work_keeps first firsts last lasts (goes_on old owed step rest _ _ works taken done) begun faithful = done_keeps old owed step rest last lasts taken done begun (work_keeps first firsts old owed works begun faithful)
