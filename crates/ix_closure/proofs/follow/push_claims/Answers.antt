use Rattle.std.proofs.Common.{rules, arith}
use Rattle.ix_closure.proofs.Lists.Appends.{claims_more}
use Rattle.ix_closure.proofs.follow.push_claims.Goals as goal

pub loop-alt-preserved : goal.loop-alt-preserved
loop-alt-preserved c = record {
  items = claims_more c.args.plan.now c.slot_count.ensures.planned c.args.rule c.loop-alt.alt c.first.result c.args.at c.args.owed.now.items c.loop-alt.owed.items c.push_reserved.new.self.items c.first.ensures c.loop-alt.invariant.items c.push_reserved.ensures.items;
  len = search (rules, arith);
  capacity = search rules;
}
