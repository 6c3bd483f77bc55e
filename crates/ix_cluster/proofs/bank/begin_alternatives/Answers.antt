use Rattle.std.proofs.Common.{rules, arith}
use Rattle.ix_cluster.proofs.Beginning.{next_begins}
use Rattle.ix_cluster.proofs.bank.begin_alternatives.Goals as goal

pub loop-alt-preserved : goal.loop-alt-preserved
loop-alt-preserved c = record {
  facts = next_begins c.args.plan.now c.slot_count.ensures.planned c.args.rule c.loop-alt.alt c.first.result c.args.at c.args.log.now.facts c.loop-alt.log.facts c.begin_alternative.new.log.facts (search rules) c.loop-alt.invariant.facts c.begin_alternative.ensures.facts;
  free = omega (arith, c.loop-alt.invariant.free, c.begin_alternative.ensures.free);
}
