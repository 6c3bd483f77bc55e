use Rattle.std.proofs.Common.{refl, []}
use Rattle.std.specs.Prelude.{codes}
use Rattle.ix_model.specs.declared.grammar.Mark.TheVariants.{Element}
use Rattle.ix_model.specs.Documents.Bare.{bare_insertion, bare_node, none, more}
use Rattle.ix_worked_examples.proofs.walks.walk_of_insertion.Goals as goal

pub returns-clause-gives : goal.returns-clause-gives
returns-clause-gives c = (more (bare_node (codes "S") Element (more (bare_insertion (codes "x")) none)) none, (_, [], (0, _, refl, (_, [], (0, refl, refl), refl, refl), refl), refl, refl), refl)
