-- An edge keeps a state tidy.
use Rattle.std.proofs.Common.{◌≡◌, ℕ, ◌+◌, Bool, true, false, cond, not, List, [], ◌++◌, map, Contains, refl, sym, ap, ◌∙◌, subst, inl, inr, arith}
use Rattle.std.proofs.lemmas.List.Elements.{Contains-append_cases}
use Rattle.ix_model.specs.Closure.Useful.{sub_at}
use Rattle.ix_model.specs.declared.rules.Sym.TheVariants as sy
use Rattle.ix_model.specs.declared.sub.Sub.{Sub}
use Rattle.ix_model.specs.Expansion.Parts.{Parts}
use Rattle.ix_model.specs.Expansion.Planned.{IsPlanned}
use Rattle.ix_cluster.specs.declared.fact.Fact.{Fact}
use Rattle.ix_cluster.specs.declared.fact.Fact.TheVariants as fact
use Rattle.ix_cluster.specs.Facts.{has, put}
use Rattle.ix_cluster.specs.Firsts.{firsts_of}
use Rattle.ix_cluster.specs.Lists.{cluster}
use Rattle.ix_cluster.specs.Steps.{ends_in, after_call}
use Rattle.ix_cluster.proofs.Calls.{call-there}
use Rattle.ix_cluster.proofs.Members.{none_has, put-keeps}
use Rattle.ix_closure.specs.declared.owed.Owed.{Owed}
use Rattle.ix_closure.specs.declared.owed.Owed.TheVariants.{Claim, Edge, End}
use Rattle.ix_closure.specs.Balance.{IsBalanced}
use Rattle.ix_closure.specs.Due.{IsRecorded}
use Rattle.ix_closure.specs.Follows.{arrival, claims_at}
use Rattle.ix_closure.specs.Quantity.{times}
use Rattle.ix_closure.specs.Seen.{State}
use Rattle.ix_closure.specs.Tidy.{IsTidy}
use Rattle.ix_closure.proofs.Lists.ClusterLists.{ends_once}
use Rattle.ix_closure.proofs.Due.DueCauses.{cause_of, edge_next}
use Rattle.ix_closure.proofs.Due.FirstSlots.{first_of, claims_once}
use Rattle.ix_closure.proofs.Lists.ListMembers.{map_from}
use Rattle.ix_closure.proofs.Lists.OnceEach.{once_map}
use Rattle.ix_closure.proofs.Tidying.OwedTimes.{times_append, times_none, times_once}
use Rattle.ix_closure.proofs.Due.StepLogs.{IsBeside, has_none, has_not}
use Rattle.ix_closure.proofs.Tidying.TidyCauses.{HasCause, IsSingle, IsKnown, IsBroughtOnce, begun_cause}
use Rattle.ix_closure.proofs.Tidying.TidyKnown.{claim_known, arrival_known}
use Rattle.ix_closure.proofs.Tidying.TidyStep.{IsDone, step_owed, tidy_after, ends_kept}

module _ (plan : Parts) (planned : IsPlanned plan) (old new : State) (n : ℕ) (log : List Fact) (r k s l : ℕ) (more : List Owed)
    (done : IsDone plan old new n log (Edge r k s l) more) (tidy : IsTidy plan old) where
  -- the edge is not recorded before
  unmet : ¬ (IsRecorded old.banks (fact.Edge r k s l))
  unmet = (tidy.owed_edges r k s l (step_owed plan planned old new n log (Edge r k s l) more done)).1

  no_edge : has log (fact.Edge r k s l) ≡ false
  no_edge = has_not log (fact.Edge r k s l) (λ c. unmet (done.moves.back (fact.Edge r k s l) c))

  -- after it its cluster is called
  called : IsRecorded new.banks (fact.Called r k)
  called =
      done.moves.made (fact.Called r k)
      (subst (λ b. Contains (cond b log (put (after_call plan log r k) (fact.Edge r k s l))) (fact.Called r k)) (sym no_edge)
      (put-keeps (after_call plan log r k) (fact.Edge r k s l) (fact.Called r k) (call-there plan log r k)))

  -- what it records has its cause
  own : IsRecorded new.banks (fact.Claim s l k)
  own = done.moves.grows (fact.Claim s l k) (cause_of plan planned (IsRecorded old.banks) (Edge r k s l) done.due)

  beside : (f : Fact) → IsBeside plan log (Edge r k s l) f → HasCause plan new f
  unfolding IsBeside
  beside f b = elim b.1 [ inl e ↦ subst (HasCause plan new) e tt | inr begun ↦ begun_cause plan planned new r k called f begun ]

  -- the arrival of the edge's slot behind an end
  abbrev behind : ℕ → Owed
  behind e = arrival k e (record { slot = s; left = l })

  -- the steps that the edge brings: claims, where it calls its cluster, and the arrivals behind the ends that it meets
  abbrev claims : List Owed
  claims = cond (not (has log (fact.Called r k))) (claims_at k (firsts_of plan r)) []

  abbrev met : List Owed
  met = map behind (ends_in log (cluster r k))

  brings : more ≡ claims ++ met
  brings =
      subst (λ b. more ≡ cond (cond b false (not (has log (fact.Called r k)))) (claims_at k (firsts_of plan r)) [] ++ map behind (cond b [] (ends_in log (cluster r k)))) no_edge done.follows

  -- a claim that it brings is of a cluster that was not called
  record IsOpened (x : Owed) : Type 0 where
    fresh : has log (fact.Called r k) ≡ false
    first : ℕ
    among : Contains (firsts_of plan r) first
    is : Claim first k k ≡ x
    once : times claims x ≡ 1

  opened_from : (x : Owed) → Contains claims x → IsOpened x
  opened_from x c = by (has log (fact.Called r k)) refl c
    where
      by : (b : Bool) → has log (fact.Called r k) ≡ b → Contains (cond (not b) (claims_at k (firsts_of plan r)) []) x → IsOpened x
      by true e h = absurd (none_has x h)
      by false e h = let p = map_from (λ t. Claim t k k) (firsts_of plan r) x h in record {
        fresh = e;
        first = p.0;
        among = p.1;
        is = p.2;
        once = ap (λ b. times (cond (not b) (claims_at k (firsts_of plan r)) []) x) e ∙ times_once (claims_at k (firsts_of plan r)) x (claims_once plan planned r k) h;
      }

  -- what it brings was not known
  claim_new : (x : Owed) → IsOpened x → ¬ (IsKnown old x)
  claim_new x o known =
      let desc = claim_known plan planned old tidy.balanced o.first k k (subst (IsKnown old) (sym o.is) known) in
      has_none log (fact.Called r k) o.fresh (done.moves.here (fact.Called r k) refl (tidy.first_descs o.first k k r desc (first_of plan planned r o.first o.among)))

  arrival_new : (e : ℕ) → ¬ (IsKnown old (behind e))
  arrival_new e known =
      let next = edge_next plan planned r k s l done.closed in
      unmet (arrival_known plan planned old tidy (sub_at (s + 1) l k e) known s (sy.Rule r next.0) next.1).0

  -- no claim is an arrival
  not_both : (x : Owed) → Contains claims x → Contains met x → ⊥
  not_both x c m =
      let claim = (opened_from x c).is in
      let arrives = (map_from behind (ends_in log (cluster r k)) x m).2 in
      cc

  -- ends with one arrival are the same
  same_end : (a b : ℕ) → behind a ≡ behind b → a ≡ b
  same_end a b h = let same : sub_at (s + 1) l k a ≡ sub_at (s + 1) l k b = cc in ap (λ (u : Sub). u.right) same

  times_more : (x : Owed) → times more x ≡ times claims x + times met x
  times_more x = ap (λ steps. times steps x) brings ∙ times_append claims met x

  -- what it brings is owed once, and was not known
  brought : (x : Owed) → IsSingle x → Contains more x → IsBroughtOnce old more x
  brought x single c = elim (Contains-append_cases claims met x (subst (λ steps. Contains steps x) brings c)) [
    | inl h ↦ (omega (arith, times_more x, (opened_from x h).once, times_none met x (not_both x h)), claim_new x (opened_from x h))
    | inr h ↦
        let e = map_from behind (ends_in log (cluster r k)) x h in
        let once = times_once met x (once_map behind (ends_in log (cluster r k)) (λ a b i j. same_end a b) (ends_once (cluster r k) log done.once)) h in
        (omega (arith, times_more x, once, times_none claims x (λ i. not_both x i h)), λ known. arrival_new e.0 (subst (IsKnown old) (sym e.2) known))
  ]

  -- it brings no end
  no_end : (r' k' e' : ℕ) → ¬ (Contains more (End r' k' e'))
  no_end r' k' e' c = elim (Contains-append_cases claims met (End r' k' e') (subst (λ steps. Contains steps (End r' k' e')) brings c)) [
    | inl h ↦ let claim = (opened_from (End r' k' e') h).is in cc
    | inr h ↦ let arrives = (map_from behind (ends_in log (cluster r k)) (End r' k' e') h).2 in cc
  ]

  pub edge_tidy : IsBalanced plan new → IsTidy plan new
  edge_tidy balanced = tidy_after plan planned old new n log (Edge r k s l) more done tidy balanced own beside brought (ends_kept plan planned old new n log (Edge r k s l) more done no_end)
