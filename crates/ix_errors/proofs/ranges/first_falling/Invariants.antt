use Rattle.std.proofs.Common.{take}
use Rattle.std.specs.List.{AllByRecursion, flat_map}
use Rattle.ix_model.specs.Grammars.Breach.{IsRising}
use Rattle.ix_errors.specs.Mentions.{range_in}
use Rattle.ix_errors.proofs.ranges.first_falling.Given as goal

abbrev pub invariant-loop-mention : goal.invariant-loop-mention
invariant-loop-mention l = AllByRecursion IsRising (flat_map range_in (take l.mention-index l.mentions))
