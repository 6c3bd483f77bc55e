use Rattle.std.proofs.Common.{◌∙◌, sym}
use Rattle.ix_cluster.proofs.banks.opening_bank.Goals as goal

pub returns-then-m-home-clause-sound : goal.returns-then-m-home-clause-sound
returns-then-m-home-clause-sound c = c.begin.ensures.sound c.args.count c.args.m (sym (c.if-m-home.true ∙ c.home.ensures))
