use Rattle.std.proofs.Common.{[]}
use Rattle.ix_settled_laws.proofs.Small.{home, away}
use Rattle.ix_settled_laws.proofs.laws.known_facts_are_at_home.Goals as goal

pub returns-clause-home : goal.returns-clause-home
returns-clause-home c = home []

pub returns-clause-elsewhere : goal.returns-clause-elsewhere
returns-clause-elsewhere c = away
