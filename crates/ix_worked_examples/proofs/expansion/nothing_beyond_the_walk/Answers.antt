use Rattle.std.proofs.Common.{refl, arith}
use Rattle.ix_model.specs.Expansion.Expanded as X
use Rattle.ix_worked_examples.proofs.ManyHelpers.{no_flats, no_terminals, no_inserts}
use Rattle.ix_worked_examples.proofs.expansion.nothing_beyond_the_walk.Goals as goal

pub returns-clause-nothing : goal.returns-clause-nothing
returns-clause-nothing c = record { end = record { rule = 0; terminal = 0; insert = 0 }; names = refl; marks = refl; walk = X.no_rule _ _; rule_count = refl; terminal_count = refl; insert_count = refl }

pub returns-clause-rule : goal.returns-clause-rule
returns-clause-rule c = no_flats _ (omega arith)

pub returns-clause-terminal : goal.returns-clause-terminal
returns-clause-terminal c = no_terminals _ (omega arith)

pub returns-clause-insertion : goal.returns-clause-insertion
returns-clause-insertion c = no_inserts _ (omega arith)
