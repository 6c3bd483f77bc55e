use Rattle.std.proofs.Common.{take}
use Rattle.std.specs.List.{AllByRecursion, flat_map}
use Rattle.ix_model.specs.Spelling.Spells.{IsHex}
use Rattle.ix_errors.specs.Mentions.{code_in}
use Rattle.ix_errors.proofs.tests.are_hex.Given as goal

abbrev pub invariant-loop-mention : goal.invariant-loop-mention
invariant-loop-mention l = AllByRecursion IsHex (flat_map code_in (take l.mention-index l.mentions))
