use Rattle.std.proofs.Common.{codes}
use Rattle.ix_offset_laws.proofs.SmallEntered.{of_earlier, of_later}
use Rattle.ix_offset_laws.proofs.laws.rules_of_one_name.Goals as goal

pub returns-clause-earlier : goal.returns-clause-earlier
returns-clause-earlier c = of_earlier (codes "b")

pub returns-clause-later : goal.returns-clause-later
returns-clause-later c = of_later (codes "b")
