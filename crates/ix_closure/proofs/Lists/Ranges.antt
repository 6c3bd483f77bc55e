-- The numbers of a range.
use Rattle.std.proofs.Common.{ℕ, zero, suc, ◌+◌, ◌<◌, ◌≤◌, Contains, ◌∙◌, subst, arith}
use Rattle.std.specs.List.{range_with_len}
use Rattle.std.proofs.lemmas.List.Elements.{Contains-get_or}
use Rattle.std.proofs.lemmas.List.FromFn.{length-range_with_len, get_or-range_with_len}
use Rattle.ix_closure.proofs.Lists.OnceEach.{IsOnceEach}

-- each number below n
pub range_has : (n k : ℕ) → k < n → Contains (range_with_len 0 n) k
range_has n k h = subst (Contains (range_with_len 0 n)) (get_or-range_with_len 0 n k 0 h ∙ omega arith) (Contains-get_or (range_with_len 0 n) k 0 (omega (arith, h, length-range_with_len 0 n)))

-- they are between its ends
pub range_within : (n len x : ℕ) → Contains (range_with_len n len) x → (n ≤ x) × (x < n + len)
range_within n len x c =
    let within : c.0 < len = omega (arith, c.1, length-range_with_len n len) in
    let at = get_or-range_with_len n len c.0 x within in
    (omega (arith, c.2, at), omega (arith, c.2, at, within))

-- and each stands there once
pub once_range : (n len : ℕ) → IsOnceEach (range_with_len n len)
unfolding IsOnceEach
once_range n zero = tt
once_range n (suc len) = ((λ c. omega (arith, (range_within (n + 1) len n c).0)), once_range (n + 1) len)
