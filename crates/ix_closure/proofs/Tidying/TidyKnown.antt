-- In a tidy state what a step follows from is recorded, where the step is owed or was done.
use Rattle.std.proofs.Common.{ℕ, List, take, drop, Contains, subst, inl, inr}
use Rattle.std.proofs.lemmas.List.{take-append-drop}
use Rattle.std.proofs.lemmas.List.Elements.{Contains-append_left}
use Rattle.ix_model.specs.declared.rules.Sym.{Sym}
use Rattle.ix_model.specs.declared.sub.Sub.{Sub}
use Rattle.ix_model.specs.Expansion.Parts.{Parts}
use Rattle.ix_model.specs.Expansion.Planned.{IsPlanned}
use Rattle.ix_model.specs.Expansion.SlotPlaces.{HasNext}
use Rattle.ix_cluster.specs.declared.fact.Fact.{Fact}
use Rattle.ix_cluster.specs.declared.fact.Fact.TheVariants as fact
use Rattle.ix_closure.specs.declared.owed.Owed.TheVariants.{Claim, Edge, Arrive}
use Rattle.ix_closure.specs.Balance.{IsBalanced}
use Rattle.ix_closure.specs.Due.{IsRecorded, FollowsIn}
use Rattle.ix_closure.specs.Seen.{State}
use Rattle.ix_closure.specs.Tidy.{IsTidy}
use Rattle.ix_closure.proofs.Due.DueCauses.{ArrivesBy, cause_of, next_not_first}
use Rattle.ix_closure.proofs.Lists.ListMembers.{place_in}
use Rattle.ix_closure.proofs.Balancing.RecordedFacts.{recorded_in, recorded_by}
use Rattle.ix_closure.proofs.Tidying.TidyCauses.{IsKnown}

module _ (plan : Parts) (planned : IsPlanned plan) (state : State) where
  -- a recorded claim has its descriptor
  pub claim_recorded : IsBalanced plan state → (s l p : ℕ) → IsRecorded state.banks (fact.Claim s l p) → IsRecorded state.banks (fact.Desc s l p)
  claim_recorded balanced s l p h =
      let at = recorded_in state.banks (fact.Claim s l p) h in
      let place = place_in at.1.log (fact.Claim s l p) at.3 in
      let before = (balanced.sound.each at.0 at.1 at.2).true_facts.later place.0 s l p place.1 in
      recorded_by state.banks at.0 at.1 (fact.Desc s l p) at.2
      (subst (λ (log : List Fact). Contains log (fact.Desc s l p)) (take-append-drop place.0 at.1.log) (Contains-append_left (take place.0 at.1.log) (drop place.0 at.1.log) (fact.Desc s l p) before))

  -- a claim, an edge
  pub claim_known : IsBalanced plan state → (s l p : ℕ) → IsKnown state (Claim s l p) → IsRecorded state.banks (fact.Desc s l p)
  claim_known balanced s l p known = elim known [
    | inl c ↦ cause_of plan planned (IsRecorded state.banks) (Claim s l p) (balanced.caused (Claim s l p) c)
    | inr h ↦ claim_recorded balanced s l p h
  ]

  pub edge_known : IsTidy plan state → (r k s l : ℕ) → IsKnown state (Edge r k s l) → IsRecorded state.banks (fact.Claim s l k)
  edge_known tidy r k s l known = elim known [
    | inl c ↦ cause_of plan planned (IsRecorded state.banks) (Edge r k s l) (tidy.balanced.caused (Edge r k s l) c)
    | inr h ↦ tidy.edges r k s l h
  ]

  -- and an arrival, by the symbol before its slot's dot
  pub arrival_known : IsTidy plan state → (sub : Sub) → IsKnown state (Arrive sub) → (s : ℕ) (x : Sym) → HasNext plan s sub.slot x → ArrivesBy plan planned (IsRecorded state.banks) s sub.left sub.pivot sub.right x
  arrival_known tidy sub known s x next = (cause_of plan planned (IsRecorded state.banks) (Arrive sub) due).1 s x next
    where
      due : FollowsIn plan state.banks (Arrive sub)
      due = elim known [
        | inl c ↦ tidy.balanced.caused (Arrive sub) c
        | inr h ↦ elim (tidy.parts sub h) [ inl e ↦ absurd (next_not_first plan s sub.slot e.0 x next e.1) | inr d ↦ d ]
      ]
