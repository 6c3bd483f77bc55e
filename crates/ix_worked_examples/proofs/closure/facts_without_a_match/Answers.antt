use Rattle.std.proofs.Common.{codes}
use Rattle.ix_examples.proofs.SmallClosures.{desc_0, no_part_b, no_end_b}
use Rattle.ix_worked_examples.proofs.closure.facts_without_a_match.Goals as goal

pub returns-clause-desc : goal.returns-clause-desc
returns-clause-desc c = desc_0 (codes "b")

pub returns-clause-parts : goal.returns-clause-parts
returns-clause-parts c = no_part_b

pub returns-clause-ends : goal.returns-clause-ends
returns-clause-ends c = no_end_b
