-- The small workers of the worked examples.
use Rattle.std.proofs.Common.{◌≡◌, ℕ, zero, suc, ◌<◌, List, [], ◌∷◌, ◌++◌, length, take, Contains, Some, slice_get, slice_index_or, refl, sym, subst, inl, inr, arith, rules, codes}
use Rattle.std.proofs.lemmas.Option.{slice_get_within}
use Rattle.ix_model.specs.Closure.Closed as closed
use Rattle.ix_model.specs.Closure.Useful.{sub_at}
use Rattle.ix_model.specs.Expansion.SlotPlaces.{HasNext}
use Rattle.ix_examples.specs.SmallPlans.{call, cycle, nothing}
use Rattle.ix_closure_laws.proofs.ClosedWithin.{desc_within}
use Rattle.ix_cluster.specs.declared.answers.Claimed.TheVariants.{Mine, Taken}
use Rattle.ix_cluster.specs.declared.fact.Fact.{Fact}
use Rattle.ix_cluster.specs.declared.fact.Fact.TheVariants as fact
use Rattle.ix_cluster.specs.BankSteps.{Belongs, Meets, claim_mine, claim_taken, end_comes}
use Rattle.ix_cluster.specs.ClosedFacts.{IsInClosed}
use Rattle.ix_cluster.specs.Seen.{Bank}
use Rattle.ix_cluster.specs.Sound.{IsSoundBank}
use Rattle.ix_cluster.proofs.Members.{none_has, one_has, first_has}
use Rattle.ix_cluster.proofs.Soundness.{sound-begin, sound-claim, sound-end}
use Rattle.ix_closure.specs.declared.owed.Owed.{Owed}
use Rattle.ix_closure.specs.declared.owed.Owed.TheVariants.{Claim, End}
use Rattle.ix_closure.specs.Examples.{nothing_called, nothing_closed, nothing_ended}
use Rattle.ix_closure.specs.Follows.{fact_of, FollowsDesc}
use Rattle.ix_closure.proofs.Due.DescriptorSteps.{follows_same}
use Rattle.ix_closure.proofs.Due.StepLogs.{has_none}
use Rattle.ix_closure.proofs.Small.SmallSteps.{nothing_planned, nothing_first, nothing_last, nothing_ends}
use Rattle.ix_closure.proofs.Small.SmallStates.{nothing_ended_tidy}
use Rattle.ix_rows.specs.Beginnings.{Begins}
use Rattle.ix_rows.specs.Logs.{log_at}
use Rattle.ix_rows.proofs.Counts.{some_is}
use Rattle.ix_rows.proofs.Logs.{begins_all}
use Rattle.ix_table.specs.Examples.{seen}
use Rattle.ix_settled_laws.specs.Brought.{IsBrought}
use Rattle.ix_settled_laws.specs.Covered.{Inside, Covered}
use Rattle.ix_settled_laws.specs.Done.{IsDone, Works, begins, goes_on}
use Rattle.ix_settled_laws.specs.Examples.{leader, follower, once_claimed, leader_later}
use Rattle.ix_settled_laws.specs.Faithful.{AtHome, IsFaithful}
use Rattle.ix_settled_laws.specs.Laws.{AreDone}
use Rattle.ix_settled_laws.specs.Owing.{OwesClosed}
use Rattle.ix_settled_laws.specs.Workers.{Worker, Answers, IsKnown}
use Rattle.ix_settled_laws.proofs.Beginning.{first_faithful}
use Rattle.ix_settled_laws.proofs.Steps.{taken_last, work_keeps}

-- ---- the bank

abbrev pub called_bank : Bank
called_bank = record { log = nothing_called; handed = 0 }

abbrev pub claimed_bank : Bank
claimed_bank = record { log = once_claimed; handed = 0 }

abbrev pub ended_bank : Bank
ended_bank = record { log = nothing_closed; handed = 0 }

pub called_sound : IsSoundBank (nothing []) 64 0 called_bank
called_sound = sound-begin (nothing []) 64 0 nothing_planned refl (search rules)

pub claimed_sound : IsSoundBank (nothing []) 64 0 claimed_bank
claimed_sound = sound-claim (nothing []) 64 0 called_bank claimed_bank 0 0 0 refl refl (search rules) called_sound

desc_closed : closed.Desc (nothing []) 0 0 0
desc_closed = closed.begun 0 0 0 closed.start nothing_first

pub ended_sound : IsSoundBank (nothing []) 64 0 ended_bank
ended_sound = sound-end (nothing []) 64 0 claimed_bank ended_bank 0 0 0 [] refl refl refl (search rules) refl (closed.ended 0 0 0 0 desc_closed nothing_last) claimed_sound

-- ---- what is known

pub not_known : (own : List (ℕ × ℕ)) → IsKnown (seen nothing_called own) (fact.Claim 0 0 0) → ⊥
not_known own (zero, h) = has_none nothing_called (fact.Claim 0 0 0) refl h
not_known own (suc m, h) = none_has (fact.Claim 0 0 0) h

pub end_not_known : (own : List (ℕ × ℕ)) → IsKnown (seen once_claimed own) (fact.End 0 0 0) → ⊥
end_not_known own (zero, h) = has_none once_claimed (fact.End 0 0 0) refl h
end_not_known own (suc m, h) = none_has (fact.End 0 0 0) h

pub home : (own : List (ℕ × ℕ)) → AtHome (nothing []) 64 (seen nothing_called own)
home own zero f h = called_sound.at_home f h
home own (suc m) f h = absurd (none_has f h)

pub away : AtHome (nothing []) 64 (record { known = [] ∷ nothing_called ∷ []; own = [] }) → ⊥
away h = let is : 0 ≡ 1 = h 1 (fact.Called 0 0) (first_has (fact.Called 0 0) (fact.Desc 0 0 0 ∷ fact.Part (sub_at 0 0 0 0) ∷ [])) in omega (arith, is)

-- ---- what is owed

pub claim_owed : OwesClosed (nothing []) (Claim 0 0 0 ∷ [])
claim_owed x h = subst (λ (y : Owed). IsInClosed (nothing []) (fact_of y)) (one_has (Claim 0 0 0) x h) desc_closed

pub beyond : (owed : List Owed) → Contains owed (Claim 0 0 1) → OwesClosed (nothing []) owed → ⊥
beyond owed there closed = let w = desc_within (nothing []) nothing_planned 0 0 1 (closed (Claim 0 0 1) there) in let high = w.2 in omega (arith, high)

-- ---- what is covered

pub inside : (owed : List Owed) → Inside (leader owed)
inside owed zero k (inl low) = low
inside owed (suc m) k (inl low) = absurd (omega (arith, low))
inside owed m k (inr own) = absurd (none_has (m, k) own)

-- what the three entries bring is the claim
entries_bring : (before : List Fact) (k : ℕ) (f : Fact) (x : Owed) → slice_get nothing_called k ≡ Some f → IsBrought (nothing []) before f x → x ≡ Claim 0 0 0
entries_bring before zero f x e brought = absurd (subst (λ (g : Fact). IsBrought (nothing []) before g x) (sym (some_is (fact.Called 0 0) f e)) brought)
entries_bring before (suc zero) f x e brought = subst (λ (g : Fact). IsBrought (nothing []) before g x) (sym (some_is (fact.Desc 0 0 0) f e)) brought
entries_bring before (suc (suc zero)) f x e brought = absurd (subst (λ (g : Fact). IsBrought (nothing []) before g x) (sym (some_is (fact.Part (sub_at 0 0 0 0)) f e)) brought)
entries_bring before (suc (suc (suc k))) f x e brought = absurd (cc e)

pub claim_covered : Covered (nothing []) (leader (Claim 0 0 0 ∷ []))
claim_covered zero k f x a e brought = inl (subst (Contains (Claim 0 0 0 ∷ [])) (sym (entries_bring (take k nothing_called) k f x e brought)) (first_has (Claim 0 0 0) []))
claim_covered (suc m) k f x a e brought = absurd (cc e)

-- what the entry behind them brings is the end
end_brought : (x : Owed) → FollowsDesc (nothing []) 0 0 0 (x ∷ []) → End 0 0 0 ≡ x
end_brought x follows = one_has' (follows_same (nothing []) nothing_planned 0 0 0 (End 0 0 0 ∷ []) (x ∷ []) nothing_ends follows)
  where
    one_has' : End 0 0 0 ∷ [] ≡ x ∷ [] → End 0 0 0 ≡ x
    one_has' e = cc e

pub later_covered : Covered (nothing []) (leader_later (End 0 0 0 ∷ []))
later_covered (suc m) k f x a e brought = absurd (cc e)
later_covered zero zero f x a e brought = absurd (subst (λ (g : Fact). IsBrought (nothing []) [] g x) (sym (some_is (fact.Called 0 0) f e)) brought)
later_covered zero (suc zero) f x a e brought =
    let is : x ≡ Claim 0 0 0 = subst (λ (g : Fact). IsBrought (nothing []) (fact.Called 0 0 ∷ []) g x) (sym (some_is (fact.Desc 0 0 0) f e)) brought in
    inr (subst (λ (y : Owed). IsKnown (seen once_claimed ((0, 3) ∷ [])) (fact_of y)) (sym is) (0, (3, omega arith, refl)))
later_covered zero (suc (suc zero)) f x a e brought = absurd (subst (λ (g : Fact). IsBrought (nothing []) (take 2 once_claimed) g x) (sym (some_is (fact.Part (sub_at 0 0 0 0)) f e)) brought)
later_covered zero (suc (suc (suc zero))) f x a e brought =
    let follows : FollowsDesc (nothing []) 0 0 0 (x ∷ []) = subst (λ (g : Fact). IsBrought (nothing []) nothing_called g x) (sym (some_is (fact.Claim 0 0 0) f e)) brought in
    inl (subst (Contains (End 0 0 0 ∷ [])) (end_brought x follows) (first_has (End 0 0 0) []))
later_covered zero (suc (suc (suc (suc k)))) f x a e brought = absurd (cc e)

-- a worker that answers for the descriptor owes its claim
pub must_claim : (own : List (ℕ × ℕ)) (begun : List ℕ) (owed : List Owed) → Answers (record { begun = begun; sight = seen nothing_called own; owed = owed }) 0 1 → (Contains owed (Claim 0 0 0) → ⊥)
    → Covered (nothing []) (record { begun = begun; sight = seen nothing_called own; owed = owed }) → ⊥
must_claim own begun owed answers none covered = elim (covered 0 1 (fact.Desc 0 0 0) (Claim 0 0 0) answers refl refl) [ inl o ↦ none o | inr k ↦ not_known own k ]

-- and one that answers for the claim its end
pub must_end : (begun : List ℕ) (owed : List Owed) → (Contains owed (End 0 0 0) → ⊥) → Covered (nothing []) (record { begun = begun; sight = seen once_claimed ((0, 3) ∷ []); owed = owed }) → ⊥
must_end begun owed none covered = elim (covered 0 3 (fact.Claim 0 0 0) (End 0 0 0) (inr (first_has (0, 3) [])) refl nothing_ends) [ inl o ↦ none o | inr k ↦ end_not_known ((0, 3) ∷ []) k ]

pub no_end_in : Contains (Claim 0 0 0 ∷ []) (End 0 0 0) → ⊥
no_end_in h = absurd (cc (one_has (Claim 0 0 0) (End 0 0 0) h))

pub leader_faithful : IsFaithful (nothing []) 64 (leader (Claim 0 0 0 ∷ []))
leader_faithful = record { inside = inside (Claim 0 0 0 ∷ []); covered = claim_covered; at_home = home []; closed = claim_owed }

none_less : (m k : ℕ) → k < slice_index_or [] m 0 → ⊥
none_less m k h = omega (arith, h)

pub follower_covered : Covered (nothing []) (follower [] [])
follower_covered m k f x (inl low) e brought = absurd (none_less m k low)
follower_covered m k f x (inr own) e brought = absurd (none_has (m, k) own)

pub follower_faithful : IsFaithful (nothing []) 64 (follower [] [])
follower_faithful = record {
  inside = λ m k a. elim a [ inl low ↦ absurd (none_less m k low) | inr own ↦ absurd (none_has (m, k) own) ];
  covered = follower_covered;
  at_home = home [];
  closed = λ x h. absurd (none_has x h);
}

-- ---- steps

pub claim_done : (rest : List Owed) → IsDone (nothing []) (seen nothing_called []) (Claim 0 0 0) rest (seen once_claimed ((0, 3) ∷ [])) (rest ++ End 0 0 0 ∷ [])
claim_done rest = record {
  answer = Belongs Mine;
  made = record { met = called_bank; left = claimed_bank; begins = ([], refl); step = claim_mine 0 0 0 refl refl; sound_met = called_sound; sound_left = claimed_sound; now = refl };
  more = End 0 0 0 ∷ [];
  follows = nothing_ends;
  now = refl;
}

pub claim_was_done : IsDone (nothing []) (seen nothing_called []) (Claim 0 0 0) [] (seen once_claimed []) []
claim_was_done = record {
  answer = Belongs Taken;
  made = record { met = claimed_bank; left = claimed_bank; begins = (fact.Claim 0 0 0 ∷ [], refl); step = claim_taken 0 0 0 refl refl; sound_met = claimed_sound; sound_left = claimed_sound; now = refl };
  more = [];
  follows = refl;
  now = refl;
}

end_done : IsDone (nothing []) (seen once_claimed ((0, 3) ∷ [])) (End 0 0 0) [] (seen nothing_closed ((0, 3) ∷ (0, 4) ∷ [])) []
end_done = record {
  answer = Meets [];
  made = record { met = claimed_bank; left = ended_bank; begins = ([], refl); step = end_comes 0 0 0 refl; sound_met = claimed_sound; sound_left = ended_sound; now = refl };
  more = [];
  follows = refl;
  now = refl;
}

pub works : Works (nothing []) (seen nothing_called []) (Claim 0 0 0 ∷ []) (seen nothing_closed ((0, 3) ∷ (0, 4) ∷ [])) []
works = goes_on (seen once_claimed ((0, 3) ∷ [])) (End 0 0 0 ∷ []) (End 0 0 0) [] (seen nothing_closed ((0, 3) ∷ (0, 4) ∷ [])) [] (goes_on (seen nothing_called []) (Claim 0 0 0 ∷ []) (Claim 0 0 0) [] (seen once_claimed ((0, 3) ∷ [])) (End 0 0 0 ∷ []) begins (taken_last (Claim 0 0 0 ∷ []) (Claim 0 0 0) [] refl) (claim_done []))
    (taken_last (End 0 0 0 ∷ []) (End 0 0 0) [] refl) end_done

-- the first claim leaves the end
pub leaves_end : (owed : List Owed) → (Contains owed (End 0 0 0) → ⊥) → Works (nothing []) (seen nothing_called []) (Claim 0 0 0 ∷ []) (seen once_claimed ((0, 3) ∷ [])) owed → ⊥
leaves_end owed none w = must_end (3 ∷ []) owed none (work_keeps (nothing []) nothing_planned (seen nothing_called []) (Claim 0 0 0 ∷ []) (seen once_claimed ((0, 3) ∷ [])) owed w (3 ∷ []) leader_faithful).covered

-- a claim that was done in the only list leaves the end
pub done_leaves_end : (owed : List Owed) → (Contains owed (End 0 0 0) → ⊥) → IsDone (nothing []) (seen nothing_called []) (Claim 0 0 0) [] (seen once_claimed ((0, 3) ∷ [])) owed → ⊥
done_leaves_end owed none done = leaves_end owed none (goes_on (seen nothing_called []) (Claim 0 0 0 ∷ []) (Claim 0 0 0) [] (seen once_claimed ((0, 3) ∷ [])) owed begins (taken_last (Claim 0 0 0 ∷ []) (Claim 0 0 0) [] refl) done)

-- ---- joined, and done

pub joined_known : (m : ℕ) → Begins (log_at (once_claimed ∷ []) m) (log_at (nothing_called ∷ []) m) × Begins (log_at (once_claimed ∷ []) m) (log_at (once_claimed ∷ []) m)
joined_known zero = ((fact.Claim 0 0 0 ∷ [], refl), begins_all once_claimed)
joined_known (suc m) = (begins_all [], begins_all [])

abbrev pub finisher : ℕ → Worker
finisher n = record { begun = n ∷ []; sight = seen nothing_closed []; owed = [] }

only_bank : (m : ℕ) (bank : Bank) → slice_get nothing_ended.banks m ≡ Some bank → (m ≡ 0) × (ended_bank ≡ bank)
only_bank zero bank e = (refl, some_is ended_bank bank e)
only_bank (suc m) bank e = absurd (cc e)

pub finisher_done : AreDone (nothing []) nothing_ended.banks (finisher 5 ∷ [])
finisher_done = record {
  faithful = λ w h. subst (IsFaithful (nothing []) 1) (one_has (finisher 5) w h) (first_faithful (nothing []) nothing_ended.banks nothing_ended_tidy.balanced.sound [] (λ x m. nothing_ended_tidy.balanced.missing x m) (λ x h. absurd (none_has x h)));
  nothing = λ w h. subst (λ (v : Worker). v.owed ≡ []) (one_has (finisher 5) w h) refl;
  begin = λ w h m bank there. let o = only_bank m bank there in
      subst (λ (v : Worker). Begins bank.log (log_at v.sight.known m)) (one_has (finisher 5) w h) (subst (λ (n : ℕ). Begins bank.log (log_at (nothing_closed ∷ []) n)) (sym o.0) (subst (λ (b : Bank). Begins b.log nothing_closed) o.1 (begins_all nothing_closed)));
  answered = λ m k bank f there e. let o = only_bank m bank there in
      let low : k < 5 = subst (λ (b : Bank). k < length b.log) (sym o.1) (slice_get_within bank.log k f e) in
      (finisher 5, first_has (finisher 5) [], inl (subst (λ (n : ℕ). k < slice_index_or (5 ∷ []) n 0) (sym o.0) low));
}

pub not_answered : AreDone (nothing []) nothing_ended.banks (finisher 4 ∷ []) → ⊥
not_answered done =
    let a = done.answered 0 4 ended_bank (fact.End 0 0 0) refl refl in
    elim (subst (λ (v : Worker). Answers v 0 4) (sym (one_has (finisher 4) a.0 a.1)) a.2) [ inl low ↦ omega (arith, low) | inr own ↦ none_has (0, 4) own ]

-- ---- S: S; "a".   on `a`

pub next_c : HasNext (cycle (codes "a")) 0 1 (call 0)
next_c = (0, 0, 0, _, refl, refl, (_, _, refl, refl, refl), refl)
