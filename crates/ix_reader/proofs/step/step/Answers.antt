use Rattle.std.proofs.Common.{rules}
use Rattle.ix_reader.proofs.step.step.Goals as goal

pub returns-in-PrologStop : goal.returns-in-PrologStop
returns-in-PrologStop c = search (rules, c.stop_read.ensures c.args.gap)

pub returns-in-RuleMarked : goal.returns-in-RuleMarked
returns-in-RuleMarked c = search (rules, c.name_read.ensures c.args.gap)

pub returns-in-AltStart : goal.returns-in-AltStart
returns-in-AltStart c = search (rules, c.start_alt.ensures c.args.gap)

pub returns-in-AtMarked : goal.returns-in-AtMarked
returns-in-AtMarked c = search (rules, c.attribute_called.ensures c.args.gap)

pub returns-in-Inserting : goal.returns-in-Inserting
returns-in-Inserting c = search (rules, c.inserted.ensures c.args.gap)

pub returns-in-Excluding : goal.returns-in-Excluding
returns-in-Excluding c = search (rules, c.set_opens.ensures c.args.gap)

pub returns-in-SetStart : goal.returns-in-SetStart
returns-in-SetStart c = search (rules, c.member_or_end.ensures c.args.gap)

pub returns-in-BoundRead : goal.returns-in-BoundRead
returns-in-BoundRead c = search (rules, c.range_or_end.ensures c.args.gap)

pub returns-in-RangeTo : goal.returns-in-RangeTo
returns-in-RangeTo c = search (rules, c.range_ends.ensures c.args.gap)
