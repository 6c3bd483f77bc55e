-- A step brings no more steps than what it adds to its bank's weight.
use Rattle.std.proofs.Common.{◌≡◌, ℕ, ◌+◌, ◌≤◌, Bool, true, false, cond, not, List, [], ◌∷◌, ◌++◌, length, length-append, map, count_by, Contains, refl, sym, ap, ◌∙◌, subst, arith}
use Rattle.std.proofs.lemmas.Bool.Decides.{nat_tests}
use Rattle.std.proofs.lemmas.List.{length-map}
use Rattle.ix_model.specs.declared.sub.Sub.{Sub}
use Rattle.ix_model.specs.Expansion.Parts.{Parts}
use Rattle.ix_model.specs.Expansion.Planned.{IsPlanned}
use Rattle.ix_cluster.specs.declared.answers.Arrived.TheVariants.{Fresh, Known}
use Rattle.ix_cluster.specs.declared.answers.Claimed.TheVariants.{Mine, Taken, Unknown}
use Rattle.ix_cluster.specs.declared.fact.Fact.{Fact}
use Rattle.ix_cluster.specs.declared.fact.Fact.TheVariants as fact
use Rattle.ix_cluster.specs.Banks.{is_descriptor}
use Rattle.ix_cluster.specs.Facts.{has, put}
use Rattle.ix_cluster.specs.Firsts.{firsts_of, is_at_end}
use Rattle.ix_cluster.specs.Lists.{cluster}
use Rattle.ix_cluster.specs.Steps.{after_first, after_firsts, after_call, after_arrival, after_edge, arrival_answer, empty_sub, edges_in, ends_in, end_of}
use Rattle.ix_cluster.proofs.Counts.{put-old}
use Rattle.ix_cluster.proofs.Handing.{handed-put_other, handed-edge, handed-end, handed-call, handed-arrive, claim-none}
use Rattle.ix_cluster.proofs.Listing.{has-put_other, has-call_edge, kept-call}
use Rattle.ix_cluster.proofs.Members.{first_has, rest_has}
use Rattle.ix_closure.specs.declared.owed.Owed.{Owed}
use Rattle.ix_closure.specs.declared.owed.Owed.TheVariants.{Claim, Edge, End, Arrive}
use Rattle.ix_closure.specs.Events.{log_after}
use Rattle.ix_closure.specs.Follows.{Follows, FollowsClaim, arrival, claims_at, opened, met_ends, met_edges, fresh_claim}
use Rattle.ix_closure.proofs.Due.DescriptorSteps.{follows_few}
use Rattle.ix_closure.proofs.Due.FirstSlots.{firsts_once}
use Rattle.ix_closure.proofs.Weighing.LogCounts.{count_put, count_put_new, count_call}
use Rattle.ix_closure.proofs.Lists.OnceEach.{IsOnceEach}
use Rattle.ix_closure.specs.Quantity.{is_claim, weight}

-- ---- a call

module _ (plan : Parts) (k : ℕ) where
  -- the descriptor of another alternative is there as before
  first_other : (log : List Fact) (s t : ℕ) → (s ≡ t → ⊥) → has (after_first plan k log s) (fact.Desc t k k) ≡ has log (fact.Desc t k k)
  first_other log s t apart = by (is_at_end plan s)
    where
      desc : has (put log (fact.Desc s k k)) (fact.Desc t k k) ≡ has log (fact.Desc t k k)
      desc = has-put_other log (fact.Desc s k k) (fact.Desc t k k) (grind (arith, nat_tests, apart))

      by : (b : Bool) → has (cond b (put (put log (fact.Desc s k k)) (fact.Part (empty_sub s k))) (put log (fact.Desc s k k))) (fact.Desc t k k) ≡ has log (fact.Desc t k k)
      by true = has-put_other (put log (fact.Desc s k k)) (fact.Part (empty_sub s k)) (fact.Desc t k k) refl ∙ desc
      by false = desc

  descriptor_first : (log : List Fact) (s : ℕ) → has log (fact.Desc s k k) ≡ false → count_by is_descriptor log + 1 ≤ count_by is_descriptor (after_first plan k log s)
  descriptor_first log s none = by (is_at_end plan s)
    where
      by : (b : Bool) → count_by is_descriptor log + 1 ≤ count_by is_descriptor (cond b (put (put log (fact.Desc s k k)) (fact.Part (empty_sub s k))) (put log (fact.Desc s k k)))
      by true = omega (arith, count_put_new is_descriptor log (fact.Desc s k k) none refl, count_put is_descriptor (put log (fact.Desc s k k)) (fact.Part (empty_sub s k)))
      by false = count_put_new is_descriptor log (fact.Desc s k k) none refl

  descriptor_firsts : (firsts : List ℕ) (log : List Fact) → IsOnceEach firsts → ((s : ℕ) → Contains firsts s → has log (fact.Desc s k k) ≡ false) → count_by is_descriptor log + length firsts ≤ count_by is_descriptor (after_firsts plan k firsts log)
  unfolding IsOnceEach
  descriptor_firsts [] log once none = omega arith
  descriptor_firsts (s ∷ ss) log once none =
      omega (
        arith,
        descriptor_first log s (none s (first_has s ss)),
        descriptor_firsts ss (after_first plan k log s) once.1 (λ t h. first_other log s t (λ e. once.0 (subst (Contains ss) (sym e) h)) ∙ none t (rest_has s ss t h)),
      )

  -- a call of alternatives of which none is there adds a descriptor for each
  pub descriptor_call : IsPlanned plan → (log : List Fact) (r : ℕ) → has log (fact.Called r k) ≡ false → ((s : ℕ) → Contains (firsts_of plan r) s → has log (fact.Desc s k k) ≡ false) → count_by is_descriptor log + length (firsts_of plan r) ≤ count_by is_descriptor (after_call plan log r k)
  descriptor_call planned log r none fresh =
      subst (λ b. count_by is_descriptor log + length (firsts_of plan r) ≤ count_by is_descriptor (cond b log (after_firsts plan k (firsts_of plan r) (put log (fact.Called r k))))) (sym none)
      (omega (
        arith,
        count_put is_descriptor log (fact.Called r k),
        descriptor_firsts (firsts_of plan r) (put log (fact.Called r k)) (firsts_once plan planned r) (λ s h. has-put_other log (fact.Called r k) (fact.Desc s k k) refl ∙ fresh s h),
      ))

-- ---- the steps

-- a rule is called before any of its alternatives is begun
abbrev pub IsFresh : Parts → List Fact → Type 0
IsFresh plan log = (r k : ℕ) → has log (fact.Called r k) ≡ false → (s : ℕ) → Contains (firsts_of plan r) s → has log (fact.Desc s k k) ≡ false

module _ (plan : Parts) (planned : IsPlanned plan) (log : List Fact) (fresh : IsFresh plan log) where
  claim_paid : (s l p : ℕ) (more : List Owed) → Follows plan log (Claim s l p) more → length more + weight log ≤ weight (log_after plan log (Claim s l p))
  claim_paid s l p more follows = by (has log (fact.Desc s l p)) (has log (fact.Claim s l p)) refl follows
    where
      by : (d c : Bool) → has log (fact.Claim s l p) ≡ c → FollowsClaim plan (cond d (cond c Taken Mine) Unknown) s l p more → length more + weight log ≤ weight (cond d (put log (fact.Claim s l p)) log)
      by false c e none = omega (arith, ap length none)
      by true true e none = rw (put-old log (fact.Claim s l p) e) (omega (arith, ap length none))
      by true false e one =
          omega (
            arith,
            follows_few plan s l p more one,
            count_put is_descriptor log (fact.Claim s l p),
            count_put_new is_claim log (fact.Claim s l p) e refl,
            handed-put_other log (fact.Claim s l p) (claim-none s l p),
          )

  arrival_paid : (sub : Sub) (more : List Owed) → more ≡ fresh_claim (arrival_answer log sub) sub → length more + weight log ≤ weight (after_arrival log sub)
  arrival_paid sub more follows = by (has log (fact.Desc sub.slot sub.left sub.right)) refl follows
    where
      claims : count_by is_claim log ≤ count_by is_claim (after_arrival log sub)
      claims = omega (arith, count_put is_claim log (fact.Part sub), count_put is_claim (put log (fact.Part sub)) (fact.Desc sub.slot sub.left sub.right))

      by : (c : Bool) → has log (fact.Desc sub.slot sub.left sub.right) ≡ c → more ≡ fresh_claim (cond c Known Fresh) sub → length more + weight log ≤ weight (after_arrival log sub)
      by true e none =
          omega (
            arith,
            ap length none,
            claims,
            handed-arrive log sub,
            count_put is_descriptor log (fact.Part sub),
            count_put is_descriptor (put log (fact.Part sub)) (fact.Desc sub.slot sub.left sub.right),
          )
      by false e one =
          omega (
            arith,
            ap length one,
            claims,
            handed-arrive log sub,
            count_put is_descriptor log (fact.Part sub),
            count_put_new is_descriptor (put log (fact.Part sub)) (fact.Desc sub.slot sub.left sub.right) (has-put_other log (fact.Part sub) (fact.Desc sub.slot sub.left sub.right) refl ∙ e) refl,
          )

  end_paid : (r k e : ℕ) (more : List Owed) → more ≡ met_edges log r k e → length more + weight log ≤ weight (put log (fact.End r k e))
  end_paid r k e more follows = by (has log (fact.End r k e)) refl follows
    where
      by : (c : Bool) → has log (fact.End r k e) ≡ c → more ≡ map (arrival k e) (cond c [] (edges_in log (cluster r k))) → length more + weight log ≤ weight (put log (fact.End r k e))
      by true w none = rw (put-old log (fact.End r k e) w) (omega (arith, ap length none))
      by false w met =
          omega (
            arith,
            ap length met,
            length-map (edges_in log (cluster r k)) (arrival k e),
            handed-end log r k e w,
            count_put is_descriptor log (fact.End r k e),
            count_put is_claim log (fact.End r k e),
          )

  edge_paid : (r k s l : ℕ) (more : List Owed) → more ≡ opened plan log r k s l ++ met_ends log r k s l → length more + weight log ≤ weight (after_edge plan log r k s l)
  edge_paid r k s l more follows = by (has log (fact.Edge r k s l)) refl follows
    where
      arrive : ℕ → Owed
      arrive e = arrival k e (record { slot = s; left = l })

      -- the claims of a cluster that is called now
      called : (c : Bool) → has log (fact.Called r k) ≡ c → length (cond (not c) (claims_at k (firsts_of plan r)) []) + count_by is_descriptor log ≤ count_by is_descriptor (after_call plan log r k)
      called true w = omega (arith, count_call is_descriptor plan k log r)
      called false w = omega (arith, length-map (firsts_of plan r) (λ a. Claim a k k), descriptor_call plan k planned log r w (fresh r k w))

      by : (c : Bool) → has log (fact.Edge r k s l) ≡ c → more ≡ cond (cond c false (not (has log (fact.Called r k)))) (claims_at k (firsts_of plan r)) [] ++ map arrive (cond c [] (ends_in log (cluster r k))) → length more + weight log ≤ weight (cond c log (put (after_call plan log r k) (fact.Edge r k s l)))
      by true w none = omega (arith, ap length none)
      by false w brought =
          let same = ap length (kept-call (end_of (cluster r k)) (λ _ _. refl) (λ _ _ _. refl) (λ _. refl) (λ _ _ _. refl) plan log r k) in
          omega (
            arith,
            ap length brought,
            length-append (cond (not (has log (fact.Called r k))) (claims_at k (firsts_of plan r)) []) (map arrive (ends_in log (cluster r k))),
            length-map (ends_in log (cluster r k)) arrive,
            called (has log (fact.Called r k)) refl,
            same,
            handed-edge (after_call plan log r k) r k s l (has-call_edge r k s l plan log r k ∙ w),
            handed-call plan log r k,
            count_put is_descriptor (after_call plan log r k) (fact.Edge r k s l),
            count_put is_claim (after_call plan log r k) (fact.Edge r k s l),
            count_call is_claim plan k log r,
          )

  -- what follows from a step is no more than what the step adds to the weight
  pub step_paid : (step : Owed) (more : List Owed) → Follows plan log step more → length more + weight log ≤ weight (log_after plan log step)
  step_paid (Claim s l p) more follows = claim_paid s l p more follows
  step_paid (Edge r k s l) more follows = edge_paid r k s l more follows
  step_paid (End r k e) more follows = end_paid r k e more follows
  step_paid (Arrive sub) more follows = arrival_paid sub more follows
