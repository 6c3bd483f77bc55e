use Rattle.std.proofs.Common.{◌≡◌, ◌++◌, false, map, replicate}
use Rattle.ix_pool.specs.Hands.{is_own, misses_of}
use Rattle.ix_pool.proofs.workers.add_stealers.Given as goal

abbrev pub invariant-loop-stealer : goal.invariant-loop-stealer
invariant-loop-stealer l =
    (map is_own l.decks.items ≡ map is_own l.initial.decks.items ++ replicate l.stealer-index false)
    × (map misses_of l.decks.items ≡ map misses_of l.initial.decks.items ++ replicate l.stealer-index 0)
