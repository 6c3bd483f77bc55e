use Rattle.std.proofs.Common.{take}
use Rattle.std.specs.List.{AllByRecursion, flat_map}
use Rattle.ix_model.specs.Grammars.Breach.{IsKnownClass}
use Rattle.ix_errors.specs.Mentions.{class_in}
use Rattle.ix_errors.proofs.classes.first_unknown.Given as goal

abbrev pub invariant-loop-mention : goal.invariant-loop-mention
invariant-loop-mention l = AllByRecursion IsKnownClass (flat_map class_in (take l.mention-index l.mentions))
