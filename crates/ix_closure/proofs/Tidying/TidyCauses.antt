-- A state is tidy where each recorded fact has its cause and each owed step its number.
use Rattle.std.proofs.Common.{◌≡◌, ℕ, ◌≤◌, List, [], ◌∷◌, Contains, refl, sym, ◌∙◌, subst, ◌⊎◌, inl, inr}
use Rattle.ix_model.specs.Closure.Useful.{sub_at}
use Rattle.ix_model.specs.Expansion.Parts.{Parts}
use Rattle.ix_model.specs.Expansion.Planned.{IsPlanned}
use Rattle.ix_model.specs.Expansion.SlotPlaces.{IsFirstSlot}
use Rattle.ix_model.proofs.SlotReaders.{first_reads}
use Rattle.ix_cluster.specs.declared.fact.Fact.{Fact}
use Rattle.ix_cluster.specs.declared.fact.Fact.TheVariants as fact
use Rattle.ix_cluster.specs.Banks.{facts_of}
use Rattle.ix_cluster.specs.Firsts.{firsts_of}
use Rattle.ix_cluster.proofs.Beginning.{ends_at_once}
use Rattle.ix_cluster.proofs.Calls.{IsBegun}
use Rattle.ix_cluster.proofs.Members.{one_has}
use Rattle.ix_closure.specs.declared.owed.Owed.{Owed}
use Rattle.ix_closure.specs.declared.owed.Owed.TheVariants.{Claim, Edge, End, Arrive}
use Rattle.ix_closure.specs.Balance.{IsBalanced}
use Rattle.ix_closure.specs.Due.{IsRecorded, FollowsIn}
use Rattle.ix_closure.specs.Follows.{fact_of}
use Rattle.ix_closure.specs.Quantity.{times, givers}
use Rattle.ix_closure.specs.Seen.{State}
use Rattle.ix_closure.specs.Tidy.{IsTidy, IsEmptyOfCalled, IsOwedOnce}
use Rattle.ix_closure.proofs.Due.FirstSlots.{first_of}
use Rattle.ix_closure.proofs.Due.NewlyDue.{due_grows}
use Rattle.ix_closure.proofs.Tidying.OwedTimes.{times_one}

-- what must be recorded for the fact to be recorded
abbrev pub HasCause : Parts → State → Fact → Type 0
HasCause plan state (fact.Desc s l p) =
    ((r : ℕ) → IsFirstSlot plan s r → IsRecorded state.banks (fact.Called r l)) × (((r : ℕ) → ¬ (IsFirstSlot plan s r)) → (k : ℕ) × IsRecorded state.banks (fact.Part (sub_at s l k p)))
HasCause plan state (fact.Edge r k s l) = IsRecorded state.banks (fact.Claim s l k)
HasCause plan state (fact.Part sub) = IsEmptyOfCalled plan state sub ⊎ FollowsIn plan state.banks (Arrive sub)
HasCause plan state _ = Unit {0}

-- the step is no end
abbrev pub IsSingle : Owed → Type 0
IsSingle (Claim s l p) = Unit {0}
IsSingle (Edge r k s l) = Unit {0}
IsSingle (Arrive sub) = Unit {0}
IsSingle (End r k e) = ⊥

-- the step is owed, or what it is to record is recorded
abbrev pub IsKnown : State → Owed → Type 0
IsKnown state x = Contains state.owed x ⊎ IsRecorded state.banks (fact_of x)

-- the step is once among those that are brought, and was not known
abbrev pub IsBroughtOnce : State → List Owed → Owed → Type 0
IsBroughtOnce state more x = (times more x ≡ 1) × ¬ (IsKnown state x)

-- so it is where a step is brought alone that was not known
pub brought_alone : (state : State) (y x : Owed) → ¬ (IsKnown state y) → Contains (y ∷ []) x → IsBroughtOnce state (y ∷ []) x
brought_alone state y x new c = subst (IsBroughtOnce state (y ∷ [])) (one_has y x c) (times_one y, new)

module _ (plan : Parts) (state : State) where
  -- so a state is tidy
  pub tidy_by : IsBalanced plan state → ((f : Fact) → IsRecorded state.banks f → HasCause plan state f) → ((x : Owed) → IsSingle x → Contains state.owed x → IsOwedOnce state x) → ((r k e : ℕ) → times state.owed (End r k e) ≤ givers plan (facts_of state.banks) r k e) → IsTidy plan state
  tidy_by balanced caused once ends = record {
    balanced = balanced;
    first_descs = λ s l p r h first. (caused (fact.Desc s l p) h).0 r first;
    other_descs = λ s l p h other. (caused (fact.Desc s l p) h).1 other;
    edges = λ r k s l h. caused (fact.Edge r k s l) h;
    parts = λ sub h. caused (fact.Part sub) h;
    claims = λ s l p c. once (Claim s l p) tt c;
    owed_edges = λ r k s l c. once (Edge r k s l) tt c;
    arrivals = λ sub c. once (Arrive sub) tt c;
    owed_ends = ends;
  }

  -- and so it is where it is tidy
  pub tidy_caused : IsTidy plan state → (f : Fact) → IsRecorded state.banks f → HasCause plan state f
  tidy_caused tidy (fact.Desc s l p) h = ((λ r first. tidy.first_descs s l p r h first), (λ other. tidy.other_descs s l p h other))
  tidy_caused tidy (fact.Edge r k s l) h = tidy.edges r k s l h
  tidy_caused tidy (fact.Part sub) h = tidy.parts sub h
  tidy_caused tidy (fact.Called r k) h = tt
  tidy_caused tidy (fact.End r k e) h = tt
  tidy_caused tidy (fact.Claim s l p) h = tt

  pub tidy_once : IsTidy plan state → (x : Owed) → IsSingle x → Contains state.owed x → IsOwedOnce state x
  tidy_once tidy (Claim s l p) single c = tidy.claims s l p c
  tidy_once tidy (Edge r k s l) single c = tidy.owed_edges r k s l c
  tidy_once tidy (Arrive sub) single c = tidy.arrivals sub c
  tidy_once tidy (End r k e) single c = absurd single

-- a cause stays one where more is recorded
pub cause_grows : (plan : Parts) (old new : State) → ((f : Fact) → IsRecorded old.banks f → IsRecorded new.banks f) → (f : Fact) → HasCause plan old f → HasCause plan new f
cause_grows plan old new grows (fact.Desc s l p) h = (
  (λ r first. grows (fact.Called r l) (h.0 r first)),
  (λ other. let p' = h.1 other in (p'.0, grows (fact.Part (sub_at s l p'.0 p)) p'.1)),
)
cause_grows plan old new grows (fact.Edge r k s l) h = grows (fact.Claim s l k) h
cause_grows plan old new grows (fact.Part sub) h = elim h [
  | inl e ↦ inl (e.0, e.1, e.2, grows (fact.Called e.0 sub.left) e.3, e.4)
  | inr due ↦ inr (due_grows plan (IsRecorded old.banks) (IsRecorded new.banks) grows (Arrive sub) due)
]
cause_grows plan old new grows (fact.Called r k) h = tt
cause_grows plan old new grows (fact.End r k e) h = tt
cause_grows plan old new grows (fact.Claim s l p) h = tt

-- what the beginning of a called rule's alternatives records has its cause
pub begun_cause : (plan : Parts) → IsPlanned plan → (state : State) (r k : ℕ) → IsRecorded state.banks (fact.Called r k) → (f : Fact) → IsBegun plan k (firsts_of plan r) f → HasCause plan state f
unfolding IsBegun
begun_cause plan planned state r k called f begun =
    let first = first_of plan planned r begun.0 begun.1 in
    elim begun.2 [
      | inl e ↦ subst (HasCause plan state) e (
        (λ q other. subst (λ (z : ℕ). IsRecorded state.banks (fact.Called z k)) (sym (first_reads plan begun.0 r first).1 ∙ (first_reads plan begun.0 q other).1) called),
        (λ none. absurd (none r first)),
      )
      | inr e ↦ subst (HasCause plan state) e.1 (inl (r, first, ends_at_once plan planned r begun.0 first e.0, called, refl))
    ]
