-- A step that the table made, with what was appended, is done.
use Rattle.std.proofs.Common.{◌≡◌, ℕ, ◌<◌, ◌≤◌, Bool, cond, is_some, List, [], ◌++◌, map, length, append-nil, sym, ap, ◌∙◌, subst}
use Rattle.std.specs.List.{All}
use Rattle.ix_model.specs.declared.sub.Sub.{Sub}
use Rattle.ix_model.specs.Expansion.Parts.{Parts}
use Rattle.ix_model.specs.Expansion.Planned.{IsPlanned}
use Rattle.ix_closure_laws.proofs.ClosedWithin.{desc_within}
use Rattle.ix_cluster.specs.declared.answers.Arrived.{Arrived}
use Rattle.ix_cluster.specs.declared.answers.Claimed.{Claimed}
use Rattle.ix_cluster.specs.declared.cluster.Edge.{Edge as Arc}
use Rattle.ix_cluster.specs.declared.fact.Fact.TheVariants as fact
use Rattle.ix_cluster.specs.BankSteps.{Call, Answer, AddEdge, AddEnd, MakeClaim, Opens, Meets, Arrives, Belongs}
use Rattle.ix_cluster.specs.BankSteps as call
use Rattle.ix_cluster.specs.ClosedFacts.{IsInClosed}
use Rattle.ix_cluster.specs.Firsts.{firsts_of}
use Rattle.ix_cluster.specs.Steps.{claim_answer, arrival_answer, edge_is_first, edge_answer, end_answer}
use Rattle.ix_cluster.proofs.Members.{none_has}
use Rattle.ix_cluster.proofs.StepCases.{step_is}
use Rattle.ix_closure.specs.declared.owed.Owed.{Owed}
use Rattle.ix_closure.specs.declared.owed.Owed.TheVariants as step
use Rattle.ix_closure.specs.Follows.{FollowsClaim, arrival, claims_at, fresh_claim}
use Rattle.ix_closure.specs.Ready.{HasFurther}
use Rattle.ix_closure.proofs.Due.Readiness.{step_ready}
use Rattle.ix_table.specs.Sights.{Sight}
use Rattle.ix_table.specs.TableSteps.{IsStep}
use Rattle.ix_settled_laws.specs.Done.{IsDone}

-- a step for one plan is one for the same plan
pub for_plan : (p q : Parts) (old : Sight) (c : Call) (answer : Answer) (new : Sight) → p ≡ q → IsStep p old c answer new → IsStep q old c answer new
for_plan p q old c answer new same made = subst (λ (z : Parts). IsStep z old c answer new) same made

module _ (plan : Parts) (old new : Sight) (rest owed : List Owed) where
  pub claim_done : (s l p : ℕ) (claimed : Claimed) (more : List Owed) → IsStep plan old (MakeClaim s l p) (Belongs claimed) new → FollowsClaim plan claimed s l p more → owed ≡ rest ++ more → IsDone plan old (step.Claim s l p) rest new owed
  claim_done s l p claimed more made follows now =
      let told = (step_is plan made.met.log (MakeClaim s l p) (Belongs claimed) made.left.log made.step).0 in
      let is : claimed ≡ claim_answer made.met.log s l p = cc in
      record { answer = Belongs claimed; made = made; more = more; follows = subst (λ (z : Claimed). FollowsClaim plan z s l p more) is follows; now = now }

  pub arrival_done : (sub : Sub) (arrived : Arrived) (more : List Owed) → IsStep plan old (call.Arrive sub) (Arrives arrived) new → more ≡ fresh_claim arrived sub → owed ≡ rest ++ more → IsDone plan old (step.Arrive sub) rest new owed
  arrival_done sub arrived more made follows now =
      let told = (step_is plan made.met.log (call.Arrive sub) (Arrives arrived) made.left.log made.step).0 in
      let is : arrived ≡ arrival_answer made.met.log sub = cc in
      record { answer = Arrives arrived; made = made; more = more; follows = follows ∙ ap (λ (z : Arrived). fresh_claim z sub) is; now = now }

  pub end_done : (r k e : ℕ) (edges : List Arc) → IsStep plan old (AddEnd r k e) (Meets edges) new → owed ≡ rest ++ map (arrival k e) edges → IsDone plan old (step.End r k e) rest new owed
  end_done r k e edges made now =
      let told = (step_is plan made.met.log (AddEnd r k e) (Meets edges) made.left.log made.step).0 in
      let is : edges ≡ end_answer made.met.log r k e = cc in
      record { answer = Meets edges; made = made; more = map (arrival k e) edges; follows = ap (map (arrival k e)) is; now = now }

  pub edge_done : (r k s l : ℕ) (first : Bool) (ends : List ℕ) → IsStep plan old (AddEdge r k s l) (Opens first ends) new
      → owed ≡ rest ++ (cond first (claims_at k (firsts_of plan r)) [] ++ map (λ e. arrival k e (record { slot = s; left = l })) ends) → IsDone plan old (step.Edge r k s l) rest new owed
  edge_done r k s l first ends made now =
      let told = (step_is plan made.met.log (AddEdge r k s l) (Opens first ends) made.left.log made.step).0 in
      let f : first ≡ edge_is_first made.met.log r k s l = cc in
      let e : ends ≡ edge_answer made.met.log r k s l = cc in
      record {
        answer = Opens first ends;
        made = made;
        more = cond first (claims_at k (firsts_of plan r)) [] ++ map (λ e. arrival k e (record { slot = s; left = l })) ends;
        follows = λ i. cond (f i) (claims_at k (firsts_of plan r)) [] ++ map (λ e. arrival k e (record { slot = s; left = l })) (e i);
        now = now;
      }

-- a claim that brings nothing leaves what was owed
pub claim_brings_nothing : (table plan : Parts) (old new : Sight) (owed : List Owed) (s l p : ℕ) (claimed other : Claimed) → table ≡ plan → IsStep table old (MakeClaim s l p) (Belongs claimed) new →
    claimed ≡ other → FollowsClaim plan other s l p [] → IsDone plan old (step.Claim s l p) owed new owed
claim_brings_nothing table plan old new owed s l p claimed other same made is follows =
    claim_done plan old new owed owed s l p claimed [] (for_plan table plan old (MakeClaim s l p) (Belongs claimed) new same made)
    (subst (λ (z : Claimed). FollowsClaim plan z s l p []) (sym is) follows) (sym (append-nil owed))

-- ---- what the calls for what follows ask

module _ (plan : Parts) (planned : IsPlanned plan) where
  -- a descriptor of the closure is in the text
  pub desc_pos : (s l p : ℕ) → IsInClosed plan (fact.Desc s l p) → p ≤ length plan.text
  desc_pos s l p h = (desc_within plan planned s l p h).2

  pub edge_rule : (r k s l : ℕ) → IsInClosed plan (fact.Edge r k s l) → r < length plan.rules.flats
  edge_rule r k s l h = (step_ready plan planned [] (λ f i. absurd (none_has f i)) (step.Edge r k s l) h).1

  pub edge_further : (r k s l : ℕ) → IsInClosed plan (fact.Edge r k s l) → HasFurther plan s
  edge_further r k s l h = let w = step_ready plan planned [] (λ f i. absurd (none_has f i)) (step.Edge r k s l) h in (w.0, ap is_some w.2.1)

  -- the edges that an end meets have symbols behind their dots
  pub met_further : (old new : Sight) (r k e : ℕ) (edges read : List Arc) → IsInClosed plan (fact.End r k e) → IsStep plan old (AddEnd r k e) (Meets edges) new → read ≡ edges → All (λ (edge : Arc). HasFurther plan edge.slot) read
  met_further old new r k e edges read h made same =
      let told = (step_is plan made.met.log (AddEnd r k e) (Meets edges) made.left.log made.step).0 in
      let is : edges ≡ end_answer made.met.log r k e = cc in
      subst (All (λ (edge : Arc). HasFurther plan edge.slot)) (sym (same ∙ is)) (step_ready plan planned made.met.log made.sound_met.true_facts.closed (step.End r k e) h)
