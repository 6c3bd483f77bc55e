-- What a log has after a step, and what is recorded then.
use Rattle.std.proofs.Common.{◌≡◌, Bool, true, false, cond, List, Contains, sym, ◌∙◌, subst, ◌⊎◌, inl, inr, true≢false}
use Rattle.std.proofs.lemmas.Bool.{cases_Bool, false_from_ne_true}
use Rattle.ix_model.specs.Expansion.Parts.{Parts}
use Rattle.ix_cluster.specs.declared.fact.Fact.{Fact}
use Rattle.ix_cluster.specs.declared.fact.Fact.TheVariants as fact
use Rattle.ix_cluster.specs.Facts.{has, put}
use Rattle.ix_cluster.specs.Firsts.{firsts_of}
use Rattle.ix_cluster.specs.Steps.{after_call}
use Rattle.ix_cluster.proofs.Calls.{IsBegun, call-from}
use Rattle.ix_cluster.proofs.Members.{put-keeps, put-from, has-Contains, Contains-has}
use Rattle.ix_cluster.proofs.Recording.{along_step}
use Rattle.ix_closure.specs.declared.owed.Owed.{Owed}
use Rattle.ix_closure.specs.declared.owed.Owed.TheVariants.{Claim, Edge, End, Arrive}
use Rattle.ix_closure.specs.Events.{call_of, log_after}
use Rattle.ix_closure.specs.Follows.{fact_of}
use Rattle.ix_closure.proofs.Balancing.RecordedFacts.{Moves}

-- where the test of a log fails it has no such fact
pub has_none : (log : List Fact) (f : Fact) → has log f ≡ false → ¬ (Contains log f)
has_none log f e c = true≢false (sym (has-Contains log f c) ∙ e)

pub has_not : (log : List Fact) (f : Fact) → ¬ (Contains log f) → has log f ≡ false
has_not log f none = false_from_ne_true (has log f) (λ t. none (Contains-has log f t))

-- a step forgets no fact
pub log_keeps : (plan : Parts) (log : List Fact) (o : Owed) (f : Fact) → Contains log f → Contains (log_after plan log o) f
log_keeps plan log o f = along_step (λ before after. Contains before f → Contains after f) (λ _ h. h) (λ _ _ _ e w h. w (e h)) (λ l g. put-keeps l g f) plan log (call_of o)

-- the fact is one that the step records beside its own: what a new call records, or the new descriptor of a subtree
unfoldable pub IsBeside : Parts → List Fact → Owed → Fact → Type 0
IsBeside plan log (Claim s l p) f = ⊥
IsBeside plan log (Edge r k s l) f = (has log (fact.Called r k) ≡ false) × ((fact.Called r k ≡ f) ⊎ IsBegun plan k (firsts_of plan r) f)
IsBeside plan log (End r k e) f = ⊥
IsBeside plan log (Arrive sub) f = (has log (fact.Desc sub.slot sub.left sub.right) ≡ false) × (fact.Desc sub.slot sub.left sub.right ≡ f)

-- no claim, no edge and no end stands beside another fact
abbrev pub CanStandBeside : Fact → Type 0
CanStandBeside (fact.Claim s l p) = ⊥
CanStandBeside (fact.Edge r k s l) = ⊥
CanStandBeside (fact.End r k e) = ⊥
CanStandBeside _ = Unit {0}

pub beside_can : (plan : Parts) (log : List Fact) (o : Owed) (f : Fact) → IsBeside plan log o f → CanStandBeside f
unfolding IsBeside IsBegun
beside_can plan log (Claim s l p) f b = absurd b
beside_can plan log (Edge r k s l) f (n, inl e) = subst CanStandBeside e tt
beside_can plan log (Edge r k s l) f (n, inr (z, h, inl e)) = subst CanStandBeside e tt
beside_can plan log (Edge r k s l) f (n, inr (z, h, inr (w, e))) = subst CanStandBeside e tt
beside_can plan log (End r k e) f b = absurd b
beside_can plan log (Arrive sub) f (n, e) = subst CanStandBeside e tt

-- what a log has after a step it had before, or it is the step's own fact, or one beside it
pub log_from : (plan : Parts) (log : List Fact) (o : Owed) (f : Fact) → Contains (log_after plan log o) f → Contains log f ⊎ ((fact_of o ≡ f) ⊎ IsBeside plan log o f)
unfolding IsBeside
log_from plan log (Claim s l p) f h = by (has log (fact.Desc s l p)) h
  where
    by : (b : Bool) → Contains (cond b (put log (fact.Claim s l p)) log) f → Contains log f ⊎ ((fact.Claim s l p ≡ f) ⊎ ⊥)
    by true c = elim (put-from log (fact.Claim s l p) f c) [ inl o ↦ inl o | inr e ↦ inr (inl e) ]
    by false c = inl c
log_from plan log (Edge r k s l) f h = by (has log (fact.Edge r k s l)) h
  where
    called : Type 0
    called = (has log (fact.Called r k) ≡ false) × ((fact.Called r k ≡ f) ⊎ IsBegun plan k (firsts_of plan r) f)

    by : (b : Bool) → Contains (cond b log (put (after_call plan log r k) (fact.Edge r k s l))) f → Contains log f ⊎ ((fact.Edge r k s l ≡ f) ⊎ called)
    by true c = inl c
    by false c = elim (put-from (after_call plan log r k) (fact.Edge r k s l) f c) [
      | inl o ↦ elim (call-from plan log r k f o) [ inl w ↦ inl w | inr n ↦ inr (inr n) ]
      | inr e ↦ inr (inl e)
    ]
log_from plan log (End r k e) f h = elim (put-from log (fact.End r k e) f h) [ inl o ↦ inl o | inr w ↦ inr (inl w) ]
log_from plan log (Arrive sub) f h = elim (put-from (put log (fact.Part sub)) (fact.Desc sub.slot sub.left sub.right) f h) [
  | inl o ↦ elim (put-from log (fact.Part sub) f o) [ inl w ↦ inl w | inr e ↦ inr (inl e) ]
  | inr e ↦ elim (cases_Bool (has log (fact.Desc sub.slot sub.left sub.right))) [
    | inl old ↦ inl (subst (Contains log) e (Contains-has log (fact.Desc sub.slot sub.left sub.right) old))
    | inr fresh ↦ inr (inr (fresh, e))
  ]
]

-- so what is recorded then was recorded before, or it is the step's own fact, or one beside it
pub newly_recorded : (plan : Parts) (Mine Before After : Fact → Type 0) (log : List Fact) (o : Owed) → Moves Mine Before After log (log_after plan log o) → (f : Fact) → After f → Before f ⊎ ((fact_of o ≡ f) ⊎ IsBeside plan log o f)
newly_recorded plan Mine Before After log o m f h = elim (m.from f h) [
  | inl b ↦ inl b
  | inr c ↦ elim (log_from plan log o f c) [ inl old ↦ inl (m.back f old) | inr new ↦ inr new ]
]
