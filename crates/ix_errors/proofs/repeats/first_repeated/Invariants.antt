use Rattle.ix_errors.specs.Firsts.{NoneRepeatedBelow}
use Rattle.ix_errors.proofs.repeats.first_repeated.Given as goal

abbrev pub invariant-loop-number : goal.invariant-loop-number
invariant-loop-number l = NoneRepeatedBelow l.names l.number
