use Rattle.std.proofs.Common.{take}
use Rattle.std.specs.List.{AllByRecursion, flat_map}
use Rattle.ix_errors.specs.Firsts.{IsAmong}
use Rattle.ix_errors.specs.Mentions.{call_in}
use Rattle.ix_errors.proofs.calls.first_undefined.Given as goal

abbrev pub invariant-loop-mention : goal.invariant-loop-mention
invariant-loop-mention l = AllByRecursion (IsAmong l.names) (flat_map call_in (take l.mention-index l.mentions))
