-- The alternatives that begin bring descriptors whose claims are those of their first slots, in order.
use Rattle.std.proofs.Common.{◌≡◌, ℕ, Bool, true, false, cond, List, [], ◌∷◌, ◌++◌, Contains, append-nil, append_assoc, refl, sym, ap, ◌∙◌, subst, inl, inr}
use Rattle.std.proofs.lemmas.List.Elements.{Contains-push_cases}
use Rattle.ix_model.specs.Expansion.Parts.{Parts}
use Rattle.ix_model.specs.Expansion.Planned.{IsPlanned}
use Rattle.ix_cluster.specs.declared.fact.Fact.{Fact}
use Rattle.ix_cluster.specs.declared.fact.Fact.TheVariants as fact
use Rattle.ix_cluster.specs.Banks.{opening, facts_of}
use Rattle.ix_cluster.specs.Facts.{has, put}
use Rattle.ix_cluster.specs.Firsts.{firsts_of, is_at_end}
use Rattle.ix_cluster.specs.Steps.{after_first, after_firsts, after_call, empty_sub}
use Rattle.ix_cluster.proofs.Listing.{kept-put, pushed-put}
use Rattle.ix_cluster.proofs.Members.{Contains-has, first_has, rest_has, none_has}
use Rattle.ix_closure.specs.declared.owed.Owed.{Owed}
use Rattle.ix_closure.specs.declared.owed.Owed.TheVariants.{Claim}
use Rattle.ix_closure.specs.Follows.{claims_at, claim_for, claims_for}
use Rattle.ix_closure.specs.Seen.{State}
use Rattle.ix_closure.proofs.Due.FirstSlots.{firsts_once}
use Rattle.ix_closure.proofs.Lists.ListMembers.{filter_has}
use Rattle.ix_closure.proofs.Lists.OnceEach.{IsOnceEach}

module _ (plan : Parts) (k : ℕ) where
  -- a descriptor without its claim among the others is not there
  not_there : (log : List Fact) (s : ℕ) → (Contains (claims_for log) (Claim s k k) → ⊥) → has log (fact.Desc s k k) ≡ false
  not_there log s none = by (has log (fact.Desc s k k)) refl
    where
      by : (b : Bool) → has log (fact.Desc s k k) ≡ b → has log (fact.Desc s k k) ≡ false
      by false e = e
      by true e = absurd (none (filter_has claim_for log (fact.Desc s k k) (Claim s k k) (Contains-has log (fact.Desc s k k) e) refl))

  claims_first : (log : List Fact) (s : ℕ) → (Contains (claims_for log) (Claim s k k) → ⊥) → claims_for (after_first plan k log s) ≡ claims_for log ++ Claim s k k ∷ []
  claims_first log s none = by (is_at_end plan s)
    where
      desc : claims_for (put log (fact.Desc s k k)) ≡ claims_for log ++ Claim s k k ∷ []
      desc = pushed-put claim_for log (fact.Desc s k k) (not_there log s none)

      by : (b : Bool) → claims_for (cond b (put (put log (fact.Desc s k k)) (fact.Part (empty_sub s k))) (put log (fact.Desc s k k))) ≡ claims_for log ++ Claim s k k ∷ []
      by true = kept-put claim_for (put log (fact.Desc s k k)) (fact.Part (empty_sub s k)) refl ∙ desc
      by false = desc

  claims_firsts : (ss : List ℕ) (log : List Fact) → IsOnceEach ss → ((s : ℕ) → Contains ss s → Contains (claims_for log) (Claim s k k) → ⊥) → claims_for (after_firsts plan k ss log) ≡ claims_for log ++ claims_at k ss
  unfolding IsOnceEach
  claims_firsts [] log once none = sym (append-nil (claims_for log))
  claims_firsts (s ∷ ss) log once none =
      claims_firsts ss (after_first plan k log s) once.1 others ∙ ap (λ (xs : List Owed). xs ++ claims_at k ss) first ∙ append_assoc (claims_for log) (Claim s k k ∷ []) (claims_at k ss)
    where
      first : claims_for (after_first plan k log s) ≡ claims_for log ++ Claim s k k ∷ []
      first = claims_first log s (none s (first_has s ss))

      others : (t : ℕ) → Contains ss t → Contains (claims_for (after_first plan k log s)) (Claim t k k) → ⊥
      others t h c = elim (Contains-push_cases (claims_for log) (Claim s k k) (Claim t k k) (subst (λ (xs : List Owed). Contains xs (Claim t k k)) first c)) [
        | inl old ↦ none t (rest_has s ss t h) old
        | inr e ↦ let same : t ≡ s = cc e in once.0 (subst (Contains ss) same h)
      ]

module _ (plan : Parts) (planned : IsPlanned plan) where
  opening_claims : claims_at 0 (firsts_of plan 0) ≡ claims_for (facts_of (opening plan 1))
  opening_claims =
      sym (
      ap claims_for (append-nil (after_call plan [] 0 0)) ∙
      claims_firsts plan 0 (firsts_of plan 0) (fact.Called 0 0 ∷ []) (firsts_once plan planned 0) (λ s h c. none_has (Claim s 0 0) c)
      )

  -- what is owed at the start are the claims of the descriptors there, in their order
  pub opening_in_order : (state : State) → state.banks ≡ opening plan 1 → state.owed ≡ claims_at 0 (firsts_of plan 0) → state.owed ≡ claims_for (facts_of state.banks)
  opening_in_order state banks owed = owed ∙ opening_claims ∙ sym (ap (λ bs. claims_for (facts_of bs)) banks)
