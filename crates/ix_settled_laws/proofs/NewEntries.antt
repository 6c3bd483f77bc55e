-- What new entries of a log bring is among the steps that follow.
use Rattle.std.proofs.Common.{◌≡◌, ℕ, ◌+◌, Bool, true, false, cond, not, List, [], ◌∷◌, ◌++◌, map, Contains, refl, sym, ap, ◌∙◌, subst, inl, inr}
use Rattle.std.proofs.lemmas.List.Elements.{Contains-append_left, Contains-append_right}
use Rattle.ix_model.specs.declared.rules.Sym.TheVariants as sy
use Rattle.ix_model.specs.declared.sub.Sub.{Sub}
use Rattle.ix_model.specs.Closure.Useful.{sub_at}
use Rattle.ix_model.specs.Expansion.Parts.{Parts}
use Rattle.ix_model.specs.Expansion.Planned.{IsPlanned}
use Rattle.ix_model.proofs.SlotReaders.{next_reads}
use Rattle.ix_cluster.specs.declared.answers.Arrived.TheVariants.{Fresh, Known}
use Rattle.ix_cluster.specs.declared.answers.Claimed.TheVariants as whose
use Rattle.ix_cluster.specs.declared.fact.Fact.{Fact}
use Rattle.ix_cluster.specs.declared.fact.Fact.TheVariants as fact
use Rattle.ix_cluster.specs.Facts.{has, put}
use Rattle.ix_cluster.specs.Firsts.{firsts_of}
use Rattle.ix_cluster.specs.Lists.{cluster}
use Rattle.ix_cluster.specs.Steps.{after_firsts, edges_in, ends_in}
use Rattle.ix_cluster.proofs.Members.{one_has, first_has, Contains-has, put-keeps}
use Rattle.ix_closure.specs.declared.owed.Owed.{Owed}
use Rattle.ix_closure.specs.declared.owed.Owed.TheVariants.{Claim, Edge, End, Arrive}
use Rattle.ix_closure.specs.Events.{log_after}
use Rattle.ix_closure.specs.Follows.{arrival, claims_at, fresh_claim, FollowsDesc, FollowsClaim, Follows}
use Rattle.ix_closure.proofs.Lists.ClusterLists.{edges_have, ends_have}
use Rattle.ix_closure.proofs.Due.DescriptorSteps.{follows_same}
use Rattle.ix_closure.proofs.Lists.ListMembers.{map_has}
use Rattle.ix_closure.proofs.Due.StepLogs.{beside_can, log_from, has_none}
use Rattle.ix_settled_laws.specs.Brought.{IsBrought}
use Rattle.ix_settled_laws.proofs.Grown.{Grows, grow_none, grow_then, grow_put, grow_firsts}

-- what the fact brings with all of these facts is among the steps
abbrev pub BringsFor : Parts → List Fact → List Owed → Fact → Type 0
BringsFor plan all more f = (x : Owed) → IsBrought plan all f x → Contains more x

-- more facts bring no less
pub brought_more : (plan : Parts) (a b : List Fact) (f : Fact) (x : Owed) → ((g : Fact) → Contains a g → Contains b g) → IsBrought plan a f x → IsBrought plan b f x
brought_more plan a b (fact.Called r k) x more h = absurd h
brought_more plan a b (fact.Part sub) x more h = absurd h
brought_more plan a b (fact.Desc s l p) x more h = h
brought_more plan a b (fact.Claim s l p) x more h = h
brought_more plan a b (fact.Edge r k s l) x more (e, after, mark, c, next, is) = (e, after, mark, more (fact.End r k e) c, next, is)
brought_more plan a b (fact.End r k e) x more (s, l, after, mark, c, next, is) = (s, l, after, mark, more (fact.Edge r k s l) c, next, is)

module _ (plan : Parts) (planned : IsPlanned plan) (log all : List Fact) where
  claim_grows : (s l p : ℕ) (more : List Owed) (b c : Bool) → FollowsClaim plan (cond b (cond c whose.Taken whose.Mine) whose.Unknown) s l p more → Grows (BringsFor plan all more) log (cond b (cond c log (log ++ fact.Claim s l p ∷ [])) log)
  claim_grows s l p more false c follows = grow_none (BringsFor plan all more) log
  claim_grows s l p more true true follows = grow_none (BringsFor plan all more) log
  claim_grows s l p more true false follows = (fact.Claim s l p ∷ [], refl, λ f h. subst (BringsFor plan all more) (one f h) here)
    where
      one : (f : Fact) → Contains (fact.Claim s l p ∷ []) f → fact.Claim s l p ≡ f
      one f h = one_has (fact.Claim s l p) f h

      here : (x : Owed) → FollowsDesc plan s l p (x ∷ []) → Contains more x
      here x h = subst (λ (z : List Owed). Contains z x) (follows_same plan planned s l p (x ∷ []) more h follows) (first_has x [])

  -- the new facts that a call records, and the claims of its first slots
  call_grows : (r k : ℕ) (others : List Owed) (c : Bool) → Grows (BringsFor plan all (cond (not c) (claims_at k (firsts_of plan r)) [] ++ others)) log (cond c log (after_firsts plan k (firsts_of plan r) (put log (fact.Called r k))))
  call_grows r k others true = grow_none (BringsFor plan all others) log
  call_grows r k others false =
      grow_then P log (put log (fact.Called r k)) (after_firsts plan k (firsts_of plan r) (put log (fact.Called r k))) (grow_put P log (fact.Called r k) (λ w x h. absurd h))
      (grow_firsts P plan k (firsts_of plan r) (put log (fact.Called r k)) desc (λ z h x w. absurd w))
    where
      P : Fact → Type 0
      P = BringsFor plan all (claims_at k (firsts_of plan r) ++ others)

      desc : (z : ℕ) → Contains (firsts_of plan r) z → (x : Owed) → x ≡ Claim z k k → Contains (claims_at k (firsts_of plan r) ++ others) x
      desc z h x e = subst (Contains (claims_at k (firsts_of plan r) ++ others)) (sym e) (Contains-append_left (claims_at k (firsts_of plan r)) others (Claim z k k) (map_has (λ n. Claim n k k) (firsts_of plan r) z h))

  edge_grows : (r k s l : ℕ) → ((e : ℕ) → Contains all (fact.End r k e) → Contains log (fact.End r k e)) → (b c : Bool)
      → Grows (BringsFor plan all (cond (cond b false (not c)) (claims_at k (firsts_of plan r)) [] ++ map (λ e. arrival k e (record { slot = s; left = l })) (cond b [] (ends_in log (cluster r k))))) log (cond b log (put (cond c log (after_firsts plan k (firsts_of plan r) (put log (fact.Called r k)))) (fact.Edge r k s l)))
  edge_grows r k s l back true c = grow_none (BringsFor plan all []) log
  edge_grows r k s l back false c =
      grow_then (BringsFor plan all (claims ++ met)) log called (put called (fact.Edge r k s l)) (call_grows r k met c)
      (grow_put (BringsFor plan all (claims ++ met)) called (fact.Edge r k s l) (λ w x h. here x h))
    where
      claims : List Owed
      claims = cond (not c) (claims_at k (firsts_of plan r)) []

      met : List Owed
      met = map (λ e. arrival k e (record { slot = s; left = l })) (ends_in log (cluster r k))

      called : List Fact
      called = cond c log (after_firsts plan k (firsts_of plan r) (put log (fact.Called r k)))

      here : (x : Owed) → IsBrought plan all (fact.Edge r k s l) x → Contains (claims ++ met) x
      here x (e, after, mark, there, next, is) =
          let in_list = map_has (λ e. arrival k e (record { slot = s; left = l })) (ends_in log (cluster r k)) e (ends_have (cluster r k) log e (back e there)) in
          let number : s + 1 ≡ after = sym (next_reads plan planned s after (sy.Rule r mark) next).2 in
          let arrives : Arrive (sub_at (s + 1) l k e) ≡ x = ap (λ n. Arrive (sub_at n l k e)) number ∙ sym is in
          Contains-append_right claims met x (subst (Contains met) arrives in_list)

  end_grows : (r k e : ℕ) → ((s l : ℕ) → Contains all (fact.Edge r k s l) → Contains log (fact.Edge r k s l)) → (b : Bool)
      → Grows (BringsFor plan all (map (arrival k e) (cond b [] (edges_in log (cluster r k))))) log (cond b log (log ++ fact.End r k e ∷ []))
  end_grows r k e back true = grow_none (BringsFor plan all []) log
  end_grows r k e back false = (fact.End r k e ∷ [], refl, λ f h. subst (BringsFor plan all met) (one_has (fact.End r k e) f h) here)
    where
      met : List Owed
      met = map (arrival k e) (edges_in log (cluster r k))

      here : (x : Owed) → IsBrought plan all (fact.End r k e) x → Contains met x
      here x (s, l, after, mark, there, next, is) =
          let in_list = map_has (arrival k e) (edges_in log (cluster r k)) (record { slot = s; left = l }) (edges_have (cluster r k) log (record { slot = s; left = l }) (back s l there)) in
          let number : s + 1 ≡ after = sym (next_reads plan planned s after (sy.Rule r mark) next).2 in
          let arrives : Arrive (sub_at (s + 1) l k e) ≡ x = ap (λ n. Arrive (sub_at n l k e)) number ∙ sym is in
          subst (Contains met) arrives in_list

  arrival_grows : (sub : Sub) (b : Bool) → has log (fact.Desc sub.slot sub.left sub.right) ≡ b → Grows (BringsFor plan all (fresh_claim (cond b Known Fresh) sub)) log (put (put log (fact.Part sub)) (fact.Desc sub.slot sub.left sub.right))
  arrival_grows sub b is =
      grow_then P log (put log (fact.Part sub)) (put (put log (fact.Part sub)) (fact.Desc sub.slot sub.left sub.right)) (grow_put P log (fact.Part sub) (λ w x h. absurd h))
      (grow_put P (put log (fact.Part sub)) (fact.Desc sub.slot sub.left sub.right) (λ w. here b is w))
    where
      P : Fact → Type 0
      P = BringsFor plan all (fresh_claim (cond b Known Fresh) sub)

      here : (b : Bool) → has log (fact.Desc sub.slot sub.left sub.right) ≡ b → has (put log (fact.Part sub)) (fact.Desc sub.slot sub.left sub.right) ≡ false → (x : Owed) → x ≡ Claim sub.slot sub.left sub.right → Contains (fresh_claim (cond b Known Fresh) sub) x
      here true is none x e = absurd (has_none (put log (fact.Part sub)) (fact.Desc sub.slot sub.left sub.right) none (put-keeps log (fact.Part sub) (fact.Desc sub.slot sub.left sub.right) (Contains-has log (fact.Desc sub.slot sub.left sub.right) is)))
      here false is none x e = subst (Contains (Claim sub.slot sub.left sub.right ∷ [])) (sym e) (first_has (Claim sub.slot sub.left sub.right) [])

module _ (plan : Parts) (planned : IsPlanned plan) (log : List Fact) where
  -- an edge brings no end, and an end no edge
  old_end : (r k s l e : ℕ) → Contains (log_after plan log (Edge r k s l)) (fact.End r k e) → Contains log (fact.End r k e)
  old_end r k s l e h = elim (log_from plan log (Edge r k s l) (fact.End r k e) h) [ inl o ↦ o | inr n ↦ elim n [ inl w ↦ absurd (cc w) | inr b ↦ absurd (beside_can plan log (Edge r k s l) (fact.End r k e) b) ] ]

  old_edge : (r k e s l : ℕ) → Contains (log_after plan log (End r k e)) (fact.Edge r k s l) → Contains log (fact.Edge r k s l)
  old_edge r k e s l h = elim (log_from plan log (End r k e) (fact.Edge r k s l) h) [ inl o ↦ o | inr n ↦ elim n [ inl w ↦ absurd (cc w) | inr b ↦ absurd (beside_can plan log (End r k e) (fact.Edge r k s l) b) ] ]

  -- a step appends facts, and what they bring follows from it
  pub step_grows : (step : Owed) (more : List Owed) → Follows plan log step more → Grows (BringsFor plan (log_after plan log step) more) log (log_after plan log step)
  step_grows (Claim s l p) more follows =
      claim_grows plan planned log (log_after plan log (Claim s l p)) s l p more (has log (fact.Desc s l p)) (has log (fact.Claim s l p)) follows
  step_grows (Edge r k s l) more follows =
      subst (λ (z : List Owed). Grows (BringsFor plan (log_after plan log (Edge r k s l)) z) log (log_after plan log (Edge r k s l))) (sym follows)
      (edge_grows plan planned log (log_after plan log (Edge r k s l)) r k s l (λ e h. old_end r k s l e h) (has log (fact.Edge r k s l)) (has log (fact.Called r k)))
  step_grows (End r k e) more follows =
      subst (λ (z : List Owed). Grows (BringsFor plan (log_after plan log (End r k e)) z) log (log_after plan log (End r k e))) (sym follows)
      (end_grows plan planned log (log_after plan log (End r k e)) r k e (λ s l h. old_edge r k e s l h) (has log (fact.End r k e)))
  step_grows (Arrive sub) more follows =
      subst (λ (z : List Owed). Grows (BringsFor plan (log_after plan log (Arrive sub)) z) log (log_after plan log (Arrive sub))) (sym follows)
      (arrival_grows plan planned log (log_after plan log (Arrive sub)) sub (has log (fact.Desc sub.slot sub.left sub.right)) refl)
