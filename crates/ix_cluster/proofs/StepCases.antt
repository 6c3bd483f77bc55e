-- Each call of a bank makes one step, which is told by the functions of its log.
use Rattle.std.proofs.Common.{◌≡◌, ℕ, Bool, true, false, not, cond, List, [], ◌∷◌, ◌++◌, filter, append-nil, refl, sym, ap, ap₂, ◌∙◌, subst}
use Rattle.std.proofs.lemmas.List.{append_assoc}
use Rattle.std.proofs.lemmas.List.Elements.{filter-append}
use Rattle.ix_model.specs.declared.sub.Sub.{Sub}
use Rattle.ix_model.specs.Expansion.Parts.{Parts}
use Rattle.ix_cluster.specs.declared.answers.Arrived.TheVariants.{Fresh, Known}
use Rattle.ix_cluster.specs.declared.answers.Claimed.TheVariants.{Mine, Taken, Unknown}
use Rattle.ix_cluster.specs.declared.fact.Fact.{Fact}
use Rattle.ix_cluster.specs.declared.fact.Fact.TheVariants.{Called, Edge, End, Desc, Part, Claim}
use Rattle.ix_cluster.specs.BankSteps.{Call, AddEdge, AddEnd, Arrive, MakeClaim, Answer, Opens, Meets, Arrives, Belongs, BankStep, edge_calls, edge_joins, edge_again, end_comes, end_again, sub_fresh, sub_known, claim_mine, claim_taken, claim_unknown}
use Rattle.ix_cluster.specs.Facts.{has, put}
use Rattle.ix_cluster.specs.Firsts.{firsts_of}
use Rattle.ix_cluster.specs.LogPlaces.{is_no_claim}
use Rattle.ix_cluster.specs.Lists.{cluster}
use Rattle.ix_cluster.specs.StepAnswers.{answer_to, after_step}
use Rattle.ix_cluster.specs.Steps.{after_firsts, after_call, edges_in, ends_in, after_edge, edge_is_first, edge_answer, end_answer, after_arrival, arrival_answer, after_claim, claim_answer}
use Rattle.ix_cluster.proofs.Counts.{put-old, put-new}
use Rattle.ix_cluster.proofs.Listing.{has-call_edge, has-put_other}
use Rattle.ix_cluster.proofs.Recording.{put_both, along_step}

module _ (plan : Parts) (log : List Fact) where
  -- the step with an answer and a log after that are those of another
  told : (call : Call) (a b : Answer) (x y : List Fact) → a ≡ b → x ≡ y → BankStep plan log call b y → BankStep plan log call a x
  told call a b x y e w step = subst (λ z. BankStep plan log call z x) (sym e) (subst (BankStep plan log call b) (sym w) step)

  edge_made : (r k s l : ℕ) → BankStep plan log (AddEdge r k s l) (Opens (edge_is_first log r k s l) (edge_answer log r k s l)) (after_edge plan log r k s l)
  edge_made r k s l = by (has log (Edge r k s l)) (has log (Called r k)) refl refl
    where
      by : (b c : Bool) → has log (Edge r k s l) ≡ b → has log (Called r k) ≡ c
          → BankStep plan log (AddEdge r k s l) (Opens (cond b false (not c)) (cond b [] (ends_in log (cluster r k))))
          (cond b log (put (cond c log (after_firsts plan k (firsts_of plan r) (put log (Called r k)))) (Edge r k s l)))
      by true c e w = edge_again r k s l e
      by false true e w = subst (BankStep plan log (AddEdge r k s l) (Opens false (ends_in log (cluster r k)))) (sym (put-new log (Edge r k s l) e)) (edge_joins r k s l e w)
      by false false e w =
          let called : after_call plan log r k ≡ after_firsts plan k (firsts_of plan r) (put log (Called r k)) = ap (λ b. cond b log (after_firsts plan k (firsts_of plan r) (put log (Called r k)))) w in
          let none : has (after_firsts plan k (firsts_of plan r) (put log (Called r k))) (Edge r k s l) ≡ false = ap (λ z. has z (Edge r k s l)) (sym called) ∙ has-call_edge r k s l plan log r k ∙ e in
          let same = put-new (after_firsts plan k (firsts_of plan r) (put log (Called r k))) (Edge r k s l) none ∙ ap (λ z. after_firsts plan k (firsts_of plan r) z ++ Edge r k s l ∷ []) (put-new log (Called r k) w) in
          subst (BankStep plan log (AddEdge r k s l) (Opens true (ends_in log (cluster r k)))) (sym same) (edge_calls r k s l e w)

  end_made : (r k e : ℕ) → BankStep plan log (AddEnd r k e) (Meets (end_answer log r k e)) (put log (End r k e))
  end_made r k e = by (has log (End r k e)) refl
    where
      by : (b : Bool) → has log (End r k e) ≡ b → BankStep plan log (AddEnd r k e) (Meets (cond b [] (edges_in log (cluster r k)))) (cond b log (log ++ End r k e ∷ []))
      by true h = end_again r k e h
      by false h = end_comes r k e h

  sub_made : (sub : Sub) → BankStep plan log (Arrive sub) (Arrives (arrival_answer log sub)) (after_arrival log sub)
  sub_made sub = by (has log (Desc sub.slot sub.left sub.right)) refl
    where
      apart : has (put log (Part sub)) (Desc sub.slot sub.left sub.right) ≡ has log (Desc sub.slot sub.left sub.right)
      apart = has-put_other log (Part sub) (Desc sub.slot sub.left sub.right) refl

      by : (b : Bool) → has log (Desc sub.slot sub.left sub.right) ≡ b → BankStep plan log (Arrive sub) (Arrives (cond b Known Fresh)) (after_arrival log sub)
      by true h = subst (BankStep plan log (Arrive sub) (Arrives Known)) (sym (put-old (put log (Part sub)) (Desc sub.slot sub.left sub.right) (apart ∙ h))) (sub_known sub h)
      by false h = subst (BankStep plan log (Arrive sub) (Arrives Fresh)) (sym (put-new (put log (Part sub)) (Desc sub.slot sub.left sub.right) (apart ∙ h))) (sub_fresh sub h)

  claim_made : (s l p : ℕ) → BankStep plan log (MakeClaim s l p) (Belongs (claim_answer log s l p)) (after_claim log s l p)
  claim_made s l p = by (has log (Desc s l p)) (has log (Claim s l p)) refl refl
    where
      by : (b c : Bool) → has log (Desc s l p) ≡ b → has log (Claim s l p) ≡ c → BankStep plan log (MakeClaim s l p) (Belongs (cond b (cond c Taken Mine) Unknown)) (cond b (cond c log (log ++ Claim s l p ∷ [])) log)
      by false c h w = claim_unknown s l p h
      by true true h w = claim_taken s l p h w
      by true false h w = claim_mine s l p h w

  -- the answer of an arrival by the log after the subtree was recorded
  pub arrival_told : (now middle : List Fact) (sub : Sub) (fresh : Bool) → now ≡ log → middle ≡ put now (Part sub) → fresh ≡ not (has middle (Desc sub.slot sub.left sub.right)) → cond fresh Fresh Known ≡ arrival_answer log sub
  arrival_told now middle sub fresh room put_in told = ap (λ b. cond b Fresh Known) is_new ∙ by (has log (Desc sub.slot sub.left sub.right))
    where
      recorded : middle ≡ put log (Part sub)
      recorded = put_in ∙ ap (λ z. put z (Part sub)) room

      is_new : fresh ≡ not (has log (Desc sub.slot sub.left sub.right))
      is_new = told ∙ ap (λ z. not (has z (Desc sub.slot sub.left sub.right))) recorded ∙ ap not (has-put_other log (Part sub) (Desc sub.slot sub.left sub.right) refl)

      by : (b : Bool) → cond (not b) Fresh Known ≡ cond b Known Fresh
      by true = refl
      by false = refl

  made : (call : Call) → BankStep plan log call (answer_to log call) (after_step plan log call)
  made (AddEdge r k s l) = edge_made r k s l
  made (AddEnd r k e) = end_made r k e
  made (Arrive sub) = sub_made sub
  made (MakeClaim s l p) = claim_made s l p

  -- what the call's functions say is the step
  pub step_from : (call : Call) (answer : Answer) (after : List Fact) → answer ≡ answer_to log call → after ≡ after_step plan log call → BankStep plan log call answer after
  step_from call answer after e w = told call answer (answer_to log call) after (after_step plan log call) e w (made call)

  -- and the step is what they say
  pub step_is : (call : Call) (answer : Answer) (after : List Fact) → BankStep plan log call answer after → (answer ≡ answer_to log call) × (after ≡ after_step plan log call)
  step_is call answer after (edge_calls r k s l e w) =
      let called : after_call plan log r k ≡ after_firsts plan k (firsts_of plan r) (log ++ Called r k ∷ []) = ap (λ b. cond b log (after_firsts plan k (firsts_of plan r) (put log (Called r k)))) w ∙ ap (after_firsts plan k (firsts_of plan r)) (put-new log (Called r k) w) in
      let none : has (after_firsts plan k (firsts_of plan r) (log ++ Called r k ∷ [])) (Edge r k s l) ≡ false = ap (λ z. has z (Edge r k s l)) (sym called) ∙ has-call_edge r k s l plan log r k ∙ e in (
        ap₂ Opens (sym (ap₂ (λ b c. cond b false (not c)) e w)) (sym (ap (λ b. cond b [] (ends_in log (cluster r k))) e)),
        sym (put-new (after_firsts plan k (firsts_of plan r) (log ++ Called r k ∷ [])) (Edge r k s l) none) ∙ ap (λ z. put z (Edge r k s l)) (sym called) ∙ sym (ap (λ b. cond b log (put (after_call plan log r k) (Edge r k s l))) e),
      )
  step_is call answer after (edge_joins r k s l e w) =
      let called : after_call plan log r k ≡ log = ap (λ b. cond b log (after_firsts plan k (firsts_of plan r) (put log (Called r k)))) w in (
        ap₂ Opens (sym (ap₂ (λ b c. cond b false (not c)) e w)) (sym (ap (λ b. cond b [] (ends_in log (cluster r k))) e)),
        sym (put-new log (Edge r k s l) e) ∙ ap (λ z. put z (Edge r k s l)) (sym called) ∙ sym (ap (λ b. cond b log (put (after_call plan log r k) (Edge r k s l))) e),
      )
  step_is call answer after (edge_again r k s l e) =
      (ap₂ Opens (sym (ap (λ b. cond b false (not (has log (Called r k)))) e)) (sym (ap (λ b. cond b [] (ends_in log (cluster r k))) e)), sym (ap (λ b. cond b log (put (after_call plan log r k) (Edge r k s l))) e))
  step_is call answer after (end_comes r k e h) = (ap Meets (sym (ap (λ b. cond b [] (edges_in log (cluster r k))) h)), sym (put-new log (End r k e) h))
  step_is call answer after (end_again r k e h) = (ap Meets (sym (ap (λ b. cond b [] (edges_in log (cluster r k))) h)), sym (put-old log (End r k e) h))
  step_is call answer after (sub_fresh sub h) =
      (ap Arrives (sym (ap (λ b. cond b Known Fresh) h)), sym (put-new (put log (Part sub)) (Desc sub.slot sub.left sub.right) (has-put_other log (Part sub) (Desc sub.slot sub.left sub.right) refl ∙ h)))
  step_is call answer after (sub_known sub h) =
      (ap Arrives (sym (ap (λ b. cond b Known Fresh) h)), sym (put-old (put log (Part sub)) (Desc sub.slot sub.left sub.right) (has-put_other log (Part sub) (Desc sub.slot sub.left sub.right) refl ∙ h)))
  step_is call answer after (claim_mine s l p h w) =
      (ap Belongs (sym (ap₂ (λ b c. cond b (cond c Taken Mine) Unknown) h w)), sym (ap₂ (λ b c. cond b (cond c log (log ++ Claim s l p ∷ [])) log) h w))
  step_is call answer after (claim_taken s l p h w) =
      (ap Belongs (sym (ap₂ (λ b c. cond b (cond c Taken Mine) Unknown) h w)), sym (ap₂ (λ b c. cond b (cond c log (log ++ Claim s l p ∷ [])) log) h w))
  step_is call answer after (claim_unknown s l p h) =
      (ap Belongs (sym (ap (λ b. cond b (cond (has log (Claim s l p)) Taken Mine) Unknown) h)), sym (ap (λ b. cond b (put log (Claim s l p)) log) h))

-- ---- what a step adds comes behind

-- the list begins with the log
abbrev Grown : List Fact → List Fact → Type 0
Grown log after = (more : List Fact) × (after ≡ log ++ more)

grown_itself : (log : List Fact) → Grown log log
grown_itself log = ([], sym (append-nil log))

grown_further : (log middle after : List Fact) → Grown log middle → Grown middle after → Grown log after
grown_further log middle after a b = (a.0 ++ b.0, b.1 ∙ ap (λ z. z ++ b.0) a.1 ∙ append_assoc log a.0 b.0)

grown_put : (log : List Fact) (f : Fact) → Grown log (put log f)
grown_put log f = put_both (Grown log) log f (λ _. grown_itself log) (λ _. (f ∷ [], refl))

module _ (plan : Parts) where
  pub step_appends : (log : List Fact) (call : Call) (answer : Answer) (after : List Fact) → BankStep plan log call answer after → (more : List Fact) × (after ≡ log ++ more)
  step_appends log call answer after step = subst (Grown log) (sym (step_is plan log call answer after step).1) (along_step Grown grown_itself grown_further grown_put plan log call)

  -- a claim stands beside the facts, and no other fact comes or goes
  pub claim_is_mark : (log : List Fact) (s l p : ℕ) (answer : Answer) (after : List Fact) → BankStep plan log (MakeClaim s l p) answer after → filter is_no_claim after ≡ filter is_no_claim log
  claim_is_mark log s l p answer after (claim_mine _ _ _ h w) = filter-append is_no_claim log (Claim s l p ∷ []) ∙ append-nil (filter is_no_claim log)
  claim_is_mark log s l p answer after (claim_taken _ _ _ h w) = refl
  claim_is_mark log s l p answer after (claim_unknown _ _ _ h) = refl
