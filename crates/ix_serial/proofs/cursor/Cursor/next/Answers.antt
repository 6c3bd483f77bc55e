use Rattle.ix_serial.proofs.cursor.Cursor.next.Goals as goal

pub returns-in-Item-clause-within : goal.returns-in-Item-clause-within
returns-in-Item-clause-within c = c.begin_item.ensures.within c.args.plan.now.rules.names c.requires.there

pub returns-in-Value-clause-within : goal.returns-in-Value-clause-within
returns-in-Value-clause-within c = c.value.ensures.within c.args.plan.now.rules.names c.requires.within

pub returns-in-Run-clause-within : goal.returns-in-Run-clause-within
returns-in-Run-clause-within c = c.run.ensures.within c.args.plan.now.rules.names c.requires.within
