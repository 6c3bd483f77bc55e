use Rattle.std.proofs.Common.{ℕ, List, length, ap, arith}
use Rattle.ix_settled_laws.specs.Joined.{Share}
use Rattle.ix_workers.proofs.laws.shares_come_back.Goals as goal

pub returns-clause-other_sight : goal.returns-clause-other_sight
returns-clause-other_sight c = λ a b none one same.
    let x = ap (λ (l : List (ℕ × ℕ)). length l) none in
    let y = ap (λ (l : List (ℕ × ℕ)). length l) one in
    let z = ap (λ (s : Share). length s.sight.own) same in
    omega (arith, x, y, z)
