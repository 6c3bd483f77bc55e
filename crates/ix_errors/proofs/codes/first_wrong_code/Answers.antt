use Rattle.std.proofs.Common.{sym, subst}
use Rattle.std.specs.List.{AllByRecursion}
use Rattle.ix_model.specs.Grammars.Breach.{IsCodePoint}
use Rattle.ix_model.specs.Spelling.Spells.{IsHex}
use Rattle.ix_errors.specs.declared.mention.Mention.{Mention}
use Rattle.ix_errors.specs.Mentions.{code_in}
use Rattle.ix_errors.proofs.Searching.{all_at, found_at}
use Rattle.ix_errors.proofs.codes.first_wrong_code.Goals as goal

pub wrong_code-requires : goal.wrong_code-requires
wrong_code-requires c = subst (λ (m : Mention). AllByRecursion IsHex (code_in m)) (sym c.mention-item.is) (all_at IsHex code_in c.args.mentions.now c.loop-mention.mention-index c.mention-item.result c.loop-mention-test.true c.requires)

pub returns-in-Some : goal.returns-in-Some
returns-in-Some c = found_at IsCodePoint code_in c.args.mentions.now c.loop-mention.mention-index c.mention-item.result c.in-Some.digits.now c.loop-mention-test.true c.mention-item.is c.loop-mention.invariant c.in-Some.ensures
