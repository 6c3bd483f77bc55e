use Rattle.std.proofs.Common.{◌≡◌, ◌+◌, length}
use Rattle.std.specs.Io.KnownBytes.{Consumes}
use Rattle.std.specs.Io.Take.{take_limit, take_remaining}
use Rattle.ix_program.proofs.files.front_of.Given as goal

abbrev pub invariant-loop : goal.invariant-loop
invariant-loop g l = record {
  few : length l.bytes.items + take_limit l.from ≡ l.most;
  consumed : Consumes (take_remaining g.I.Read.remaining l.initial.from) (take_remaining g.I.Read.remaining l.from) l.bytes.items;
}
