use Rattle.std.proofs.Common.{refl}
use Rattle.ix_slots.proofs.WrittenTerminals.{become, to_written, from_written}
use Rattle.ix_slots.proofs.laws.terminal_is_written.Goals as goal

pub returns : goal.returns
returns c = λ g rules s a b f n shown i j chars h.
    let is = become g rules a b f _ n shown refl h in
    (to_written rules s i j chars f n is, from_written rules s i j chars f n is)
