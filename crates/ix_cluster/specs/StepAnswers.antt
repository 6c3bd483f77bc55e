-- What a call of a bank answers and leaves, as functions, and the laws of its steps. It is this project's own.
use Rattle.std.specs.Prelude.{ℕ, ◌≡◌, ◌↔◌, ◌++◌, List, filter}
use Rattle.ix_model.specs.Expansion.Parts.{Parts}
use Rattle.ix_cluster.specs.declared.fact.Fact.{Fact}
use Rattle.ix_cluster.specs.declared.fact.Fact.TheVariants.{End}
use Rattle.ix_cluster.specs.BankSteps.{Call, AddEdge, AddEnd, Arrive, MakeClaim, Answer, Opens, Meets, Arrives, Belongs, BankStep}
use Rattle.ix_cluster.specs.Facts.{put}
use Rattle.ix_cluster.specs.LogPlaces.{is_no_claim}
use Rattle.ix_cluster.specs.Steps.{after_edge, edge_is_first, edge_answer, end_answer, after_arrival, arrival_answer, after_claim, claim_answer}

-- what the call answers that meets this log
abbrev pub answer_to : List Fact → Call → Answer
answer_to log (AddEdge r k s l) = Opens (edge_is_first log r k s l) (edge_answer log r k s l)
answer_to log (AddEnd r k e) = Meets (end_answer log r k e)
answer_to log (Arrive sub) = Arrives (arrival_answer log sub)
answer_to log (MakeClaim s l p) = Belongs (claim_answer log s l p)

-- the log after the call
abbrev pub after_step : Parts → List Fact → Call → List Fact
after_step plan log (AddEdge r k s l) = after_edge plan log r k s l
after_step plan log (AddEnd r k e) = put log (End r k e)
after_step plan log (Arrive sub) = after_arrival log sub
after_step plan log (MakeClaim s l p) = after_claim log s l p

-- a call has one answer and leaves one log
abbrev pub StepIsOne : Type 0
StepIsOne = (plan : Parts) (log : List Fact) (call : Call) (answer : Answer) (after : List Fact) → BankStep plan log call answer after ↔ ((answer ≡ answer_to log call) × (after ≡ after_step plan log call))

-- a step leaves what was recorded as it was, and what it adds comes behind
abbrev pub StepAppends : Type 0
StepAppends = (plan : Parts) (log : List Fact) (call : Call) (answer : Answer) (after : List Fact) → BankStep plan log call answer after → (more : List Fact) × (after ≡ log ++ more)

-- a claim is a mark: but for the claims the log stays as it was
abbrev pub ClaimIsMark : Type 0
ClaimIsMark = (plan : Parts) (log : List Fact) (s l p : ℕ) (answer : Answer) (after : List Fact) → BankStep plan log (MakeClaim s l p) answer after → filter is_no_claim after ≡ filter is_no_claim log
