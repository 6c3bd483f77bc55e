-- What the answer of a table's step tells of the pass's sight before and after it. It is this project's own.
use Rattle.std.specs.Prelude.{◌≡◌, ℕ, Contains, Some, slice_get}
use Rattle.ix_model.specs.Expansion.Parts.{Parts}
use Rattle.ix_cluster.specs.BankSteps.{Call, AddEdge, AddEnd, MakeClaim, Answer, Opens, Meets, Belongs}
use Rattle.ix_cluster.specs.declared.answers.Claimed.{Claimed}
use Rattle.ix_cluster.specs.declared.answers.Claimed.TheVariants.{Mine, Taken, Unknown}
use Rattle.ix_cluster.specs.declared.cluster.Edge.{Edge as Arc}
use Rattle.ix_cluster.specs.declared.fact.Fact.{Fact}
use Rattle.ix_cluster.specs.declared.fact.Fact.TheVariants.{Edge, End, Desc, Claim}
use Rattle.ix_cluster.specs.ClosedFacts.{IsInClosed}
use Rattle.ix_rows.specs.Logs.{log_at}
use Rattle.ix_table.specs.Calls.{fact_for, place_for}
use Rattle.ix_table.specs.Sights.{Sight}

-- the fact is known at the place
abbrev pub Knows : Sight → ℕ → Fact → Type 0
Knows sight m fact = Contains (log_at sight.known m) fact

-- the fact is known at the place, and its entry is own
abbrev pub Owns : Sight → ℕ → Fact → Type 0
Owns sight m fact = (k : ℕ) × (slice_get (log_at sight.known m) k ≡ Some fact) × Contains sight.own (m, k)

module _ (plan : Parts) (old : Sight) (call : Call) (new : Sight) where
  -- of a claim: where it is the pass's it is one of its own entries, where it was made before it is known, and the descriptor
  -- is in the closure; else the descriptor is not known, and was not. But for the first no entry came
  abbrev pub ClaimTells : ℕ → ℕ → ℕ → Claimed → Type 0
  ClaimTells s l p Mine = IsInClosed plan (Desc s l p) × Owns new (place_for plan call) (Claim s l p)
  ClaimTells s l p Taken = IsInClosed plan (Desc s l p) × Knows new (place_for plan call) (Claim s l p) × (new.own ≡ old.own)
  ClaimTells s l p Unknown = ¬ (Knows new (place_for plan call) (Desc s l p)) × ¬ (Knows old (place_for plan call) (Desc s l p)) × (new.own ≡ old.own)

-- what is answered to the call is in the closure, and the fact of each call but a claim is known
abbrev pub Tells : Parts → Sight → Call → Answer → Sight → Type 0
Tells plan old (MakeClaim s l p) (Belongs claimed) new = ClaimTells plan old (MakeClaim s l p) new s l p claimed
Tells plan old (AddEdge r k s l) (Opens first ends) new = Knows new (place_for plan (AddEdge r k s l)) (Edge r k s l) × ((e : ℕ) → Contains ends e → IsInClosed plan (End r k e))
Tells plan old (AddEnd r k e) (Meets edges) new = Knows new (place_for plan (AddEnd r k e)) (End r k e) × ((arc : Arc) → Contains edges arc → IsInClosed plan (Edge r k arc.slot arc.left))
Tells plan old call answer new = Knows new (place_for plan call) (fact_for call)
