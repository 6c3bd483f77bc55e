use Rattle.std.proofs.Common.{◌≡◌, vec_len}
use Rattle.ix_pool.proofs.workers.deques.Given as goal

abbrev pub invariant-loop : goal.invariant-loop
invariant-loop l = (vec_len l.owns ≡ l.counter) × (vec_len l.stealers ≡ l.counter)
