-- What a step records, and which steps it brings. It is this project's own order of work over the closure's rules.
use Rattle.std.specs.Prelude.{◌≡◌, ℕ, ◌+◌, Bool, List, [], ◌∷◌, ◌++◌, map, Option, None, Some, if◌then◌else◌}
use Rattle.std.specs.List.{filter_map}
use Rattle.ix_model.specs.declared.grammar.Mark.{Mark}
use Rattle.ix_model.specs.declared.rules.Sym.{Sym}
use Rattle.ix_model.specs.declared.rules.Sym.TheVariants as sym
use Rattle.ix_model.specs.declared.sub.Sub.{Sub}
use Rattle.ix_model.specs.Closure.Useful.{sub_at}
use Rattle.ix_model.specs.Expansion.Parts.{Parts}
use Rattle.ix_model.specs.Expansion.FlatDerives.{IsTerminal}
use Rattle.ix_model.specs.Expansion.SlotPlaces.{HasNext, IsLastSlot}
use Rattle.ix_cluster.specs.declared.answers.Arrived.{Arrived}
use Rattle.ix_cluster.specs.declared.answers.Arrived.TheVariants.{Fresh, Known}
use Rattle.ix_cluster.specs.declared.answers.Claimed.{Claimed}
use Rattle.ix_cluster.specs.declared.answers.Claimed.TheVariants.{Mine, Taken, Unknown}
use Rattle.ix_cluster.specs.declared.cluster.Edge.{Edge as Arc}
use Rattle.ix_cluster.specs.declared.fact.Fact.{Fact}
use Rattle.ix_cluster.specs.declared.fact.Fact.TheVariants as fact
use Rattle.ix_cluster.specs.Firsts.{firsts_of}
use Rattle.ix_cluster.specs.Steps.{claim_answer, arrival_answer, edge_is_first, edge_answer, end_answer}
use Rattle.ix_closure.specs.declared.owed.Owed.{Owed}
use Rattle.ix_closure.specs.declared.owed.Owed.TheVariants.{Claim, Edge, End, Arrive}

-- the fact that the step is to record
abbrev pub fact_of : Owed → Fact
fact_of (Claim s l p) = fact.Claim s l p
fact_of (Edge r k s l) = fact.Edge r k s l
fact_of (End r k e) = fact.End r k e
fact_of (Arrive sub) = fact.Part sub

-- the rule that an edge's slot waits for goes from k to e, so the slot with its dot behind the rule, which has the next
-- number, arrives at e
abbrev pub arrival : ℕ → ℕ → Arc → Owed
arrival k e edge = Arrive (sub_at (edge.slot + 1) edge.left k e)

-- a claim for each of the first slots at k
abbrev pub claims_at : ℕ → List ℕ → List Owed
claims_at k firsts = map (λ s. Claim s k k) firsts

-- the claim of the descriptor that the fact is
abbrev pub claim_for : Fact → Option Owed
claim_for (fact.Desc s l p) = Some (Claim s l p)
claim_for _ = None

-- a claim for each descriptor among the facts, in their order
abbrev pub claims_for : List Fact → List Owed
claims_for facts = filter_map claim_for facts

module _ (plan : Parts) (s l p : ℕ) where
  -- what a descriptor brings that was claimed now
  pub data FollowsDesc : List Owed → Type 0 where
    -- a terminal stands there: the slot behind it arrives where it ends
    passes : (x : Sym) (after e : ℕ) → HasNext plan s after x → IsTerminal plan x p e → FollowsDesc (Arrive (sub_at after l p e) ∷ [])
    -- a terminal does not stand there
    stops : (t : ℕ) (shown : Bool) (after : ℕ) → HasNext plan s after (sym.Term t shown) → ((e : ℕ) → ¬ (IsTerminal plan (sym.Term t shown) p e)) → FollowsDesc []
    -- an insertion takes no character
    inserts : (n after : ℕ) → HasNext plan s after (sym.Insert n) → FollowsDesc (Arrive (sub_at after l p p) ∷ [])
    -- a rule is called at p
    calls : (r after : ℕ) (mark : Option Mark) → HasNext plan s after (sym.Rule r mark) → FollowsDesc (Edge r p s l ∷ [])
    -- the dot at the end ends the slot's rule
    ends : (r : ℕ) → IsLastSlot plan s r → FollowsDesc (End r l p ∷ [])

-- what a claim brings: nothing, where the descriptor was claimed before
abbrev pub FollowsClaim : Parts → Claimed → ℕ → ℕ → ℕ → List Owed → Type 0
FollowsClaim plan Mine s l p more = FollowsDesc plan s l p more
FollowsClaim plan Taken s l p more = more ≡ []
FollowsClaim plan Unknown s l p more = more ≡ []

-- the claims of an edge's cluster, where the edge called it
abbrev pub opened : Parts → List Fact → ℕ → ℕ → ℕ → ℕ → List Owed
opened plan log r k s l = if edge_is_first log r k s l then claims_at k (firsts_of plan r) else []

-- the arrivals of an edge's slot behind the ends that the edge meets
abbrev pub met_ends : List Fact → ℕ → ℕ → ℕ → ℕ → List Owed
met_ends log r k s l = map (λ e. arrival k e (record { slot = s; left = l })) (edge_answer log r k s l)

-- the arrivals of the slots of the edges that an end meets
abbrev pub met_edges : List Fact → ℕ → ℕ → ℕ → List Owed
met_edges log r k e = map (arrival k e) (end_answer log r k e)

-- the claim of a subtree's descriptor, where it was new
abbrev pub fresh_claim : Arrived → Sub → List Owed
fresh_claim Fresh sub = Claim sub.slot sub.left sub.right ∷ []
fresh_claim Known sub = []

-- the steps that a step brings, by the log that it met, in the order in which they are appended
abbrev pub Follows : Parts → List Fact → Owed → List Owed → Type 0
Follows plan log (Claim s l p) more = FollowsClaim plan (claim_answer log s l p) s l p more
Follows plan log (Edge r k s l) more = more ≡ opened plan log r k s l ++ met_ends log r k s l
Follows plan log (End r k e) more = more ≡ met_edges log r k e
Follows plan log (Arrive sub) more = more ≡ fresh_claim (arrival_answer log sub) sub
