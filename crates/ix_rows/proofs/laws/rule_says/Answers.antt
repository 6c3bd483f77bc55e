use Rattle.ix_rows.proofs.Sentences.{taken_have_holders, free_are_kept, live_name_topic, known_begin, own_once}
use Rattle.ix_rows.proofs.laws.rule_says.Goals as goal

pub returns-clause-taken : goal.returns-clause-taken
returns-clause-taken g c = taken_have_holders g.K.Kept.fact g.K.Kept.log

pub returns-clause-free : goal.returns-clause-free
returns-clause-free g c = free_are_kept g.K.Kept.fact g.K.Kept.log

pub returns-clause-topic : goal.returns-clause-topic
returns-clause-topic g c = live_name_topic g.K.Kept.fact g.K.Kept.log

pub returns-clause-known : goal.returns-clause-known
returns-clause-known g c = known_begin g.K.Kept.fact g.K.Kept.log

pub returns-clause-own : goal.returns-clause-own
returns-clause-own g c = own_once g.K.Kept.fact g.K.Kept.log
