use Rattle.std.proofs.Common.{sym, subst}
use Rattle.std.specs.List.{AllByRecursion}
use Rattle.ix_model.specs.Grammars.Breach.{IsCodePoint, IsRising}
use Rattle.ix_model.specs.Spelling.Spells.{IsHex}
use Rattle.ix_errors.specs.declared.mention.Mention.{Mention}
use Rattle.ix_errors.specs.Mentions.{code_in, range_in}
use Rattle.ix_errors.proofs.Searching.{all_at, found_at}
use Rattle.ix_errors.proofs.ranges.first_falling.Goals as goal

pub falling-requires-clause-hex : goal.falling-requires-clause-hex
falling-requires-clause-hex c = subst (λ (m : Mention). AllByRecursion IsHex (code_in m)) (sym c.mention-item.is) (all_at IsHex code_in c.args.mentions.now c.loop-mention.mention-index c.mention-item.result c.loop-mention-test.true c.requires.hex)

pub falling-requires-clause-characters : goal.falling-requires-clause-characters
falling-requires-clause-characters c = subst (λ (m : Mention). AllByRecursion IsCodePoint (code_in m)) (sym c.mention-item.is) (all_at IsCodePoint code_in c.args.mentions.now c.loop-mention.mention-index c.mention-item.result c.loop-mention-test.true c.requires.characters)

pub returns-in-Some : goal.returns-in-Some
returns-in-Some c = found_at IsRising range_in c.args.mentions.now c.loop-mention.mention-index c.mention-item.result c.in-Some.numbers c.loop-mention-test.true c.mention-item.is c.loop-mention.invariant c.in-Some.ensures
