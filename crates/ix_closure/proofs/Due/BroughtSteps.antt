-- What a step brings is exactly what becomes due by it.
use Rattle.std.proofs.Common.{◌≡◌, ℕ, ◌+◌, Bool, true, false, cond, not, List, [], ◌∷◌, ◌++◌, map, Contains, Option, refl, sym, subst, ◌⊎◌, inl, inr}
use Rattle.std.proofs.lemmas.List.Elements.{Contains-append_left, Contains-append_right, Contains-append_cases}
use Rattle.ix_model.specs.Closure.Useful.{sub_at}
use Rattle.ix_model.specs.declared.grammar.Mark.{Mark}
use Rattle.ix_model.specs.declared.rules.Sym.TheVariants as sy
use Rattle.ix_model.specs.declared.sub.Sub.{Sub}
use Rattle.ix_model.specs.Expansion.Parts.{Parts}
use Rattle.ix_model.specs.Expansion.Planned.{IsPlanned}
use Rattle.ix_model.specs.Expansion.SlotPlaces.{HasNext}
use Rattle.ix_model.proofs.SlotReaders.{next_reads}
use Rattle.ix_cluster.specs.declared.answers.Arrived.TheVariants.{Fresh, Known}
use Rattle.ix_cluster.specs.declared.answers.Claimed.TheVariants as whose
use Rattle.ix_cluster.specs.declared.fact.Fact.{Fact}
use Rattle.ix_cluster.specs.declared.fact.Fact.TheVariants as fact
use Rattle.ix_cluster.specs.ClosedFacts.{IsInClosed}
use Rattle.ix_cluster.specs.Facts.{has, put}
use Rattle.ix_cluster.specs.Firsts.{firsts_of}
use Rattle.ix_cluster.specs.Lists.{cluster}
use Rattle.ix_cluster.specs.Steps.{after_call, edges_in, ends_in}
use Rattle.ix_cluster.proofs.Calls.{IsBegun, call-desc}
use Rattle.ix_cluster.proofs.Members.{first_has, one_has, none_has, has-Contains, Contains-has, put-keeps, put-there}
use Rattle.ix_closure.specs.declared.owed.Owed.{Owed}
use Rattle.ix_closure.specs.declared.owed.Owed.TheVariants.{Claim, Edge, End, Arrive}
use Rattle.ix_closure.specs.Due.{IsDue, claim, meets}
use Rattle.ix_closure.specs.Events.{log_after}
use Rattle.ix_closure.specs.Follows.{fact_of, arrival, claims_at, fresh_claim, FollowsDesc, FollowsClaim, Follows}
use Rattle.ix_closure.proofs.Lists.ClusterLists.{edges_have, ends_have, edges_from, ends_from}
use Rattle.ix_closure.proofs.Due.DescriptorSteps.{follows_same, follows_due}
use Rattle.ix_closure.proofs.Due.DueCauses.{cause_of, edge_next}
use Rattle.ix_closure.proofs.Lists.ListMembers.{map_has, map_from}
use Rattle.ix_closure.proofs.Due.NewlyDue.{IsNewlyDue, by_desc, by_claim, by_edge, by_end, due_grows, due_split}
use Rattle.ix_closure.proofs.Balancing.RecordedFacts.{Moves}
use Rattle.ix_closure.proofs.Due.StepLogs.{IsBeside, beside_can, newly_recorded}

-- the step has recorded its fact, and what is due behind it was due before or is among the further steps
pub record Brings (plan : Parts) (Before After : Fact → Type 0) (o : Owed) (more : List Owed) : Type 0 where
  pub done : After (fact_of o)
  pub newly : (x : Owed) → IsDue plan After x → IsDue plan Before x ⊎ Contains more x
  pub causes : (x : Owed) → Contains more x → IsDue plan After x

-- what follows from a fact alone, where it is a claim
FollowsOf : Parts → Fact → List Owed → Type 0
FollowsOf plan (fact.Claim s l p) more = FollowsDesc plan s l p more
FollowsOf plan f more = ⊥

-- the claim of a descriptor, alone
claim_alone : Fact → List Owed
claim_alone (fact.Desc s l p) = Claim s l p ∷ []
claim_alone f = []

-- what an edge or an end gives with the ends or edges of its cluster
joins_of : List Fact → Fact → List Owed
joins_of log (fact.End r k e) = map (arrival k e) (edges_in log (cluster r k))
joins_of log (fact.Edge r k s l) = map (λ e. arrival k e (record { slot = s; left = l })) (ends_in log (cluster r k))
joins_of log f = []

-- an edge of an end's cluster, and an end of an edge's
edge_at : Fact → ℕ → ℕ → Fact
edge_at (fact.End r k e) s l = fact.Edge r k s l
edge_at f s l = f

end_at : Fact → ℕ → Fact
end_at (fact.Edge r k s l) e = fact.End r k e
end_at f e = f

module _ (plan : Parts) (planned : IsPlanned plan) (Mine Before After : Fact → Type 0) (log : List Fact) (true_fact : (f : Fact) → Before f → IsInClosed plan f) where
  -- a step that records nothing
  idle : (o : Owed) → Moves Mine Before After log log → Before (fact_of o) → Brings plan Before After o []
  idle o m there = record {
    done = m.grows (fact_of o) there;
    newly = λ x d. inl (due_grows plan After Before (λ f h. elim (m.from f h) [ inl b ↦ b | inr w ↦ m.back f w ]) x d);
    causes = λ x h. absurd (none_has x h);
  }

  -- a step that records its fact, and perhaps descriptors beside it
  active : (o : Owed) (more : List Owed) → Moves Mine Before After log (log_after plan log o) → After (fact_of o) → ((x : Owed) → IsNewlyDue plan (λ f. fact_of o ≡ f) After x → Contains more x) → ((s l p : ℕ) → IsBeside plan log o (fact.Desc s l p) → Contains more (Claim s l p)) → ((x : Owed) → Contains more x → IsDue plan After x) → Brings plan Before After o more
  active o more m made own descs causes = record {
    done = made;
    newly = λ x d. elim (due_split plan Before After (λ f. (fact_of o ≡ f) ⊎ IsBeside plan log o f) (newly_recorded plan Mine Before After log o m) x d) [ inl b ↦ inl b | inr n ↦ inr (newly x n) ];
    causes = causes;
  }
    where
      newly : (x : Owed) → IsNewlyDue plan (λ f. (fact_of o ≡ f) ⊎ IsBeside plan log o f) After x → Contains more x
      newly x (by_desc s l p (inl e)) = own x (by_desc s l p e)
      newly x (by_desc s l p (inr b)) = descs s l p b
      newly x (by_claim s l p y (inl e) w) = own x (by_claim s l p y e w)
      newly x (by_claim s l p y (inr b) w) = absurd (beside_can plan log o (fact.Claim s l p) b)
      newly x (by_edge r k s l e after mark (inl w) end next) = own x (by_edge r k s l e after mark w end next)
      newly x (by_edge r k s l e after mark (inr b) end next) = absurd (beside_can plan log o (fact.Edge r k s l) b)
      newly x (by_end r k s l e after mark edge (inl w) next) = own x (by_end r k s l e after mark edge w next)
      newly x (by_end r k s l e after mark edge (inr b) next) = absurd (beside_can plan log o (fact.End r k e) b)

  -- a claim
  module _ (s l p : ℕ) where
    claim_new : (more : List Owed) → Moves Mine Before After log (log_after plan log (Claim s l p)) → After (fact.Claim s l p) → FollowsDesc plan s l p more → Brings plan Before After (Claim s l p) more
    unfolding FollowsOf IsBeside
    claim_new more m made follows = active (Claim s l p) more m made newly (λ a b c none. absurd none) (λ x h. follows_due plan After s l p more x made follows h)
      where
        newly : (x : Owed) → IsNewlyDue plan (λ f. fact.Claim s l p ≡ f) After x → Contains more x
        newly x (by_desc a b c e) = absurd (cc)
        newly x (by_claim a b c o e w) =
            let here : FollowsDesc plan s l p (o ∷ []) = subst (λ f. FollowsOf plan f (o ∷ [])) (sym e) w in
            subst (λ (z : List Owed). Contains z o) (follows_same plan planned s l p (o ∷ []) more here follows) (first_has o [])
        newly x (by_edge a b c d e after mark w end next) = absurd (cc)
        newly x (by_end a b c d e after mark edge w next) = absurd (cc)

    pub claim_brings : (more : List Owed) → IsDue plan Before (Claim s l p) → Mine (fact.Desc s l p) → Moves Mine Before After log (log_after plan log (Claim s l p)) → Follows plan log (Claim s l p) more → Brings plan Before After (Claim s l p) more
    claim_brings more due mine m follows = by (has log (fact.Desc s l p)) (has log (fact.Claim s l p)) refl refl m follows
      where
        there : has log (fact.Desc s l p) ≡ true
        there = has-Contains log (fact.Desc s l p) (m.here (fact.Desc s l p) mine (cause_of plan planned Before (Claim s l p) due))

        recorded : Contains (log_after plan log (Claim s l p)) (fact.Claim s l p)
        recorded = subst (λ d. Contains (cond d (put log (fact.Claim s l p)) log) (fact.Claim s l p)) (sym there) (put-there log (fact.Claim s l p))

        by : (d c : Bool) → has log (fact.Desc s l p) ≡ d → has log (fact.Claim s l p) ≡ c → Moves Mine Before After log (cond d (cond c log (log ++ fact.Claim s l p ∷ [])) log) → FollowsClaim plan (cond d (cond c whose.Taken whose.Mine) whose.Unknown) s l p more → Brings plan Before After (Claim s l p) more
        by false c v w n f = absurd (cc (there, v))
        by true true v w n f = subst (Brings plan Before After (Claim s l p)) (sym f) (idle (Claim s l p) n (n.back (fact.Claim s l p) (Contains-has log (fact.Claim s l p) w)))
        by true false v w n f = claim_new more m (m.made (fact.Claim s l p) recorded) f

  -- an end
  module _ (r k e : ℕ) (mine : (s l : ℕ) → Mine (fact.Edge r k s l)) where
    end_new : Moves Mine Before After log (put log (fact.End r k e)) → Brings plan Before After (End r k e) (map (arrival k e) (edges_in log (cluster r k)))
    unfolding joins_of edge_at IsBeside
    end_new m = active (End r k e) (map (arrival k e) (edges_in log (cluster r k))) m made newly (λ s l p none. absurd none) causes
      where
        made : After (fact.End r k e)
        made = m.made (fact.End r k e) (put-there log (fact.End r k e))

        old_edge : (r' k' s l : ℕ) → After (fact.Edge r' k' s l) → Before (fact.Edge r' k' s l)
        old_edge r' k' s l h = elim (newly_recorded plan Mine Before After log (End r k e) m (fact.Edge r' k' s l) h) [ inl b ↦ b | inr n ↦ elim n [ inl w ↦ absurd (cc w) | inr b ↦ absurd (beside_can plan log (End r k e) (fact.Edge r' k' s l) b) ] ]

        met : (r' k' s l e' after : ℕ) (mark : Option Mark) → Before (fact.Edge r' k' s l) → fact.End r k e ≡ fact.End r' k' e' → HasNext plan s after (sy.Rule r' mark) → Contains (map (arrival k e) (edges_in log (cluster r k))) (Arrive (sub_at after l k' e'))
        met r' k' s l e' after mark edge w next =
            let here = m.here (fact.Edge r' k' s l) (subst (λ f. Mine (edge_at f s l)) w (mine s l)) edge in
            let in_list = map_has (arrival k' e') (edges_in log (cluster r' k')) (record { slot = s; left = l }) (edges_have (cluster r' k') log (record { slot = s; left = l }) here) in
            let number : s + 1 ≡ after = sym (next_reads plan planned s after (sy.Rule r' mark) next).2 in
            subst (λ n. Contains (map (arrival k e) (edges_in log (cluster r k))) (Arrive (sub_at n l k' e'))) number
            (subst (λ f. Contains (joins_of log f) (Arrive (sub_at (s + 1) l k' e'))) (sym w) in_list)

        newly : (x : Owed) → IsNewlyDue plan (λ f. fact.End r k e ≡ f) After x → Contains (map (arrival k e) (edges_in log (cluster r k))) x
        newly x (by_desc a b c w) = absurd (cc)
        newly x (by_claim a b c o w f) = absurd (cc)
        newly x (by_edge a b c d x' after mark w end next) = absurd (cc)
        newly x (by_end r' k' s l e' after mark edge w next) = met r' k' s l e' after mark (old_edge r' k' s l edge) w next

        causes : (x : Owed) → Contains (map (arrival k e) (edges_in log (cluster r k))) x → IsDue plan After x
        causes x h =
            let a = map_from (arrival k e) (edges_in log (cluster r k)) x h in
            let there = m.back (fact.Edge r k a.0.slot a.0.left) (edges_from (cluster r k) log a.0 a.1) in
            let next = edge_next plan planned r k a.0.slot a.0.left (true_fact (fact.Edge r k a.0.slot a.0.left) there) in
            subst (IsDue plan After) a.2 (meets r k a.0.slot a.0.left e (a.0.slot + 1) next.0 (m.grows (fact.Edge r k a.0.slot a.0.left) there) made next.1)

    pub end_brings : (more : List Owed) → Moves Mine Before After log (log_after plan log (End r k e)) → Follows plan log (End r k e) more → Brings plan Before After (End r k e) more
    end_brings more m follows = subst (Brings plan Before After (End r k e)) (sym follows) (by (has log (fact.End r k e)) refl m)
      where
        by : (b : Bool) → has log (fact.End r k e) ≡ b → Moves Mine Before After log (cond b log (log ++ fact.End r k e ∷ [])) → Brings plan Before After (End r k e) (map (arrival k e) (cond b [] (edges_in log (cluster r k))))
        by true w n = idle (End r k e) n (n.back (fact.End r k e) (Contains-has log (fact.End r k e) w))
        by false w n = end_new m

  -- an arrival
  module _ (sub : Sub) where
    pub arrival_brings : (more : List Owed) → Moves Mine Before After log (log_after plan log (Arrive sub)) → Follows plan log (Arrive sub) more → Brings plan Before After (Arrive sub) more
    unfolding claim_alone IsBeside
    arrival_brings more m follows =
        subst (Brings plan Before After (Arrive sub)) (sym follows)
        (active (Arrive sub) (fresh_claim (cond (has log (fact.Desc sub.slot sub.left sub.right)) Known Fresh) sub) m
        (m.made (fact.Part sub) (put-keeps (put log (fact.Part sub)) (fact.Desc sub.slot sub.left sub.right) (fact.Part sub) (put-there log (fact.Part sub))))
        newly (λ s l p b. claimed s l p (has log (fact.Desc sub.slot sub.left sub.right)) b.0 b.1) (λ x h. causes (has log (fact.Desc sub.slot sub.left sub.right)) x h))
      where
        claimed : (s l p : ℕ) (b : Bool) → b ≡ false → fact.Desc sub.slot sub.left sub.right ≡ fact.Desc s l p → Contains (fresh_claim (cond b Known Fresh) sub) (Claim s l p)
        claimed s l p true w e = absurd (cc)
        claimed s l p false w e = subst (λ f. Contains (claim_alone f) (Claim s l p)) (sym e) (first_has (Claim s l p) [])

        newly : (x : Owed) → IsNewlyDue plan (λ f. fact.Part sub ≡ f) After x → Contains (fresh_claim (cond (has log (fact.Desc sub.slot sub.left sub.right)) Known Fresh) sub) x
        newly x (by_desc a b c w) = absurd (cc)
        newly x (by_claim a b c o w f) = absurd (cc)
        newly x (by_edge a b c d e after mark w end next) = absurd (cc)
        newly x (by_end a b c d e after mark edge w next) = absurd (cc)

        causes : (b : Bool) (x : Owed) → Contains (fresh_claim (cond b Known Fresh) sub) x → IsDue plan After x
        causes true x h = absurd (none_has x h)
        causes false x h =
            subst (IsDue plan After) (one_has (Claim sub.slot sub.left sub.right) x h)
            (claim sub.slot sub.left sub.right (m.made (fact.Desc sub.slot sub.left sub.right) (put-there (put log (fact.Part sub)) (fact.Desc sub.slot sub.left sub.right))))

  -- an edge
  module _ (r k s l : ℕ) (mine : (e : ℕ) → Mine (fact.End r k e)) where
    -- the claims of its cluster, where it calls it, and the arrivals behind the ends that it meets
    abbrev claims : List Owed
    claims = cond (not (has log (fact.Called r k))) (claims_at k (firsts_of plan r)) []

    abbrev met_ends : List Owed
    met_ends = map (λ e. arrival k e (record { slot = s; left = l })) (ends_in log (cluster r k))

    edge_new : has log (fact.Edge r k s l) ≡ false → Moves Mine Before After log (log_after plan log (Edge r k s l)) → IsInClosed plan (fact.Edge r k s l) → Brings plan Before After (Edge r k s l) (claims ++ met_ends)
    unfolding IsBeside IsBegun joins_of end_at
    edge_new new m closed =
        active (Edge r k s l) (claims ++ met_ends) m made newly descs
        (λ x h. elim (Contains-append_cases claims met_ends x h) [ inl c ↦ claims_due (has log (fact.Called r k)) refl x c | inr a ↦ arrivals_due x a ])
      where
        recorded : (f : Fact) → Contains (put (after_call plan log r k) (fact.Edge r k s l)) f → After f
        recorded f h = m.made f (subst (λ b. Contains (cond b log (put (after_call plan log r k) (fact.Edge r k s l))) f) (sym new) h)

        made : After (fact.Edge r k s l)
        made = recorded (fact.Edge r k s l) (put-there (after_call plan log r k) (fact.Edge r k s l))

        old_end : (r' k' e : ℕ) → After (fact.End r' k' e) → Before (fact.End r' k' e)
        old_end r' k' e h = elim (newly_recorded plan Mine Before After log (Edge r k s l) m (fact.End r' k' e) h) [ inl b ↦ b | inr n ↦ elim n [ inl w ↦ absurd (cc w) | inr b ↦ absurd (beside_can plan log (Edge r k s l) (fact.End r' k' e) b) ] ]

        claimed : (z s' l' p : ℕ) (c : Bool) → c ≡ false → Contains (firsts_of plan r) z → fact.Desc z k k ≡ fact.Desc s' l' p → Contains (cond (not c) (claims_at k (firsts_of plan r)) []) (Claim s' l' p)
        claimed z s' l' p true w h e = absurd (cc)
        claimed z s' l' p false w h e =
            let q : Claim z k k ≡ Claim s' l' p = (cc) in
            subst (Contains (claims_at k (firsts_of plan r))) q (map_has (λ n. Claim n k k) (firsts_of plan r) z h)

        met : (r' k' s' l' e after : ℕ) (mark : Option Mark) → fact.Edge r k s l ≡ fact.Edge r' k' s' l' → Before (fact.End r' k' e) → HasNext plan s' after (sy.Rule r' mark) → Contains met_ends (Arrive (sub_at after l' k' e))
        met r' k' s' l' e after mark w end next =
            let here = m.here (fact.End r' k' e) (subst (λ f. Mine (end_at f e)) w (mine e)) end in
            let in_list = map_has (λ e. arrival k' e (record { slot = s'; left = l' })) (ends_in log (cluster r' k')) e (ends_have (cluster r' k') log e here) in
            let number : s' + 1 ≡ after = sym (next_reads plan planned s' after (sy.Rule r' mark) next).2 in
            subst (λ n. Contains met_ends (Arrive (sub_at n l' k' e))) number (subst (λ f. Contains (joins_of log f) (Arrive (sub_at (s' + 1) l' k' e))) (sym w) in_list)

        newly : (x : Owed) → IsNewlyDue plan (λ f. fact.Edge r k s l ≡ f) After x → Contains (claims ++ met_ends) x
        newly x (by_desc a b c w) = absurd (cc)
        newly x (by_claim a b c o w f) = absurd (cc)
        newly x (by_edge r' k' s' l' e after mark w end next) = Contains-append_right claims met_ends (Arrive (sub_at after l' k' e)) (met r' k' s' l' e after mark w (old_end r' k' e end) next)
        newly x (by_end a b c d e after mark edge w next) = absurd (cc)

        descs : (s' l' p : ℕ) → IsBeside plan log (Edge r k s l) (fact.Desc s' l' p) → Contains (claims ++ met_ends) (Claim s' l' p)
        descs s' l' p (n, inl e) = absurd (cc)
        descs s' l' p (n, inr (z, h, inl e)) = Contains-append_left claims met_ends (Claim s' l' p) (claimed z s' l' p (has log (fact.Called r k)) n h e)
        descs s' l' p (n, inr (z, h, inr (w, e))) = absurd (cc)

        claims_due : (c : Bool) → has log (fact.Called r k) ≡ c → (x : Owed) → Contains (cond (not c) (claims_at k (firsts_of plan r)) []) x → IsDue plan After x
        claims_due true w x h = absurd (none_has x h)
        claims_due false w x h =
            let z = map_from (λ n. Claim n k k) (firsts_of plan r) x h in
            let there = put-keeps (after_call plan log r k) (fact.Edge r k s l) (fact.Desc z.0 k k) (call-desc plan log r k w z.0 z.1) in
            subst (IsDue plan After) z.2 (claim z.0 k k (recorded (fact.Desc z.0 k k) there))

        arrivals_due : (x : Owed) → Contains met_ends x → IsDue plan After x
        arrivals_due x h =
            let e = map_from (λ e. arrival k e (record { slot = s; left = l })) (ends_in log (cluster r k)) x h in
            let end = m.grows (fact.End r k e.0) (m.back (fact.End r k e.0) (ends_from (cluster r k) log e.0 e.1)) in
            let next = edge_next plan planned r k s l closed in
            subst (IsDue plan After) e.2 (meets r k s l e.0 (s + 1) next.0 made end next.1)

    pub edge_brings : (more : List Owed) → IsInClosed plan (fact.Edge r k s l) → Moves Mine Before After log (log_after plan log (Edge r k s l)) → Follows plan log (Edge r k s l) more → Brings plan Before After (Edge r k s l) more
    edge_brings more closed m follows = subst (Brings plan Before After (Edge r k s l)) (sym follows) (by (has log (fact.Edge r k s l)) refl m)
      where
        by : (b : Bool) → has log (fact.Edge r k s l) ≡ b → Moves Mine Before After log (cond b log (put (after_call plan log r k) (fact.Edge r k s l)))
            → Brings plan Before After (Edge r k s l) (cond (cond b false (not (has log (fact.Called r k)))) (claims_at k (firsts_of plan r)) [] ++ map (λ e. arrival k e (record { slot = s; left = l })) (cond b [] (ends_in log (cluster r k))))
        by true w n = idle (Edge r k s l) n (n.back (fact.Edge r k s l) (Contains-has log (fact.Edge r k s l) w))
        by false w n = edge_new w m closed
