use Rattle.std.proofs.Common.{arith}
use Rattle.std.proofs.lemmas.Grind.{common_steps}
use Rattle.std.proofs.lemmas.List.Elements.{filter_map-append}
use Rattle.ix_cluster.proofs.banks.add_subs.Goals as goal

pub loop-fact-preserved : goal.loop-fact-preserved
loop-fact-preserved c = grind (arith, common_steps, filter_map-append)
