use Rattle.std.proofs.Common.{◌≡◌, ◌≢◌, ℕ, ◌<◌, ◌≤◌, vec_len}
use Rattle.ix_pool.specs.Asking.{Missed, Untouched}
use Rattle.ix_pool.proofs.hand.ask_others.Given as goal

abbrev pub invariant-loop-other : goal.invariant-loop-other
invariant-loop-other g l =
    (vec_len l.decks ≡ vec_len l.initial.decks)
    × ((w : ℕ) → w < l.other → w ≢ l.own → Missed g.D.Deck.count l.initial.decks.items l.decks.items w)
    × ((w : ℕ) → l.other ≤ w → Untouched l.initial.decks.items l.decks.items w)
    × Untouched l.initial.decks.items l.decks.items l.own
