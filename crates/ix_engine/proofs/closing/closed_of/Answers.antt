use Rattle.ix_cluster.specs.Banks.{facts_of}
use Rattle.ix_engine.proofs.DescriptorCounts.{descriptors_counted}
use Rattle.ix_engine.proofs.FurthestDots.{furthest_dot}
use Rattle.ix_engine.proofs.SubtreeCounts.{subtrees_counted}
use Rattle.ix_engine.proofs.closing.closed_of.Goals as goal

pub returns-clause-furthest : goal.returns-clause-furthest
returns-clause-furthest c = furthest_dot c.args.plan.now (facts_of c.args.banks.banks.items) c.requires.closure c.furthest.result c.furthest.ensures.greatest

pub returns-clause-counts : goal.returns-clause-counts
returns-clause-counts c = record {
  descriptors = descriptors_counted c.args.plan.now (facts_of c.args.banks.banks.items) c.requires.closure c.descriptors.result c.descriptors.ensures;
  subtrees = subtrees_counted c.args.plan.now c.in_ok-set.set c.in_ok-set.ensures c.count.result c.count.ensures;
}
