use Rattle.std.proofs.Common.{ℕ, List, [], ◌∷◌, get_or, refl, ap, arith}
use Rattle.ix_rows.proofs.Logs.{begins_all, begins_none, begins_length}
use Rattle.ix_rows.proofs.laws.lists_begin.Goals as goal

pub returns-clause-front : goal.returns-clause-front
returns-clause-front c = (2 ∷ [], refl)

pub returns-clause-nothing : goal.returns-clause-nothing
returns-clause-nothing c = begins_none (1 ∷ 2 ∷ [])

pub returns-clause-all : goal.returns-clause-all
returns-clause-all c = begins_all (1 ∷ 2 ∷ [])

pub returns-clause-back : goal.returns-clause-back
returns-clause-back c = λ h. let first = ap (λ (l : List ℕ). get_or l 0 0) h.1 in omega arith

pub returns-clause-more : goal.returns-clause-more
returns-clause-more c = λ h. let long = begins_length (1 ∷ []) (1 ∷ 2 ∷ []) h in omega arith
