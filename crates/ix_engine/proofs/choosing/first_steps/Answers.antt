use Rattle.ix_engine.proofs.choosing.first_steps.Goals as goal

pub walk-requires-clause-nested : goal.walk-requires-clause-nested
walk-requires-clause-nested c = c.expanded_is_nested.ensures c.requires.of_grammar.0 c.args.plan.now.rules c.requires.of_grammar.1.expanded
