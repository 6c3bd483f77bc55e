use Rattle.std.proofs.Common.{◌≡◌, ◌+◌, ◌<◌, ℕ, length, vec_len, get_or}
use Rattle.ix_pool.specs.Hands.{IsNewHand}
use Rattle.ix_pool.proofs.workers.hands.Given as goal

abbrev pub invariant-loop-worker : goal.invariant-loop-worker
invariant-loop-worker l =
    (vec_len l.hands + length l.worker-iterator.rest.items ≡ l.workers)
    × ((w : ℕ) (h : _) → w < length l.hands.items → IsNewHand w l.workers (get_or l.hands.items w h).own (get_or l.hands.items w h).decks.items)
