use Rattle.ix_model.specs.Grammars.Breach.{IsKnownClass}
use Rattle.ix_errors.specs.Mentions.{class_in}
use Rattle.ix_errors.proofs.Searching.{found_at}
use Rattle.ix_errors.proofs.classes.first_unknown.Goals as goal

pub returns-in-Some : goal.returns-in-Some
returns-in-Some c = found_at IsKnownClass class_in c.args.mentions.now c.loop-mention.mention-index c.mention-item.result c.in-Some.code.now c.loop-mention-test.true c.mention-item.is c.loop-mention.invariant c.in-Some.ensures
